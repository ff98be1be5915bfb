use Rattle.std.proofs.Common.{◌++◌, ◌∷◌, [], List, ap, ◌∙◌}
use Rattle.vx_shared.specs.Legal.{entry}
use Rattle.vx_shared.specs.declared.history.Entry.{Entry}
use Rattle.vx_shared.proofs.Legally.{applied}
use Rattle.vx_shared.proofs.held.Held.apply.Goals as goal

pub invariant_of-self-2 : goal.invariant_of-self-2
invariant_of-self-2 c = applied c.self.inside.first.value c.self.inside.center c.apply.new.self c.self.inside.history.items c.push_reserved.new.self.items c.args.event c.in_ok-reply.reply c.self.invariant c.in_ok-reply.ensures.reply c.in_ok-reply.ensures.next
    (c.push_reserved.ensures.items ∙ ap (λ (l : List Entry). l ++ entry c.args.event c.in_ok-reply.reply ∷ []) c.reserve.ensures.items)

pub returns-clause-legal : goal.returns-clause-legal
returns-clause-legal c = (applied c.self.inside.first.value c.self.inside.center c.apply.new.self c.self.inside.history.items c.push_reserved.new.self.items c.args.event c.in_ok-reply.reply c.self.invariant c.in_ok-reply.ensures.reply c.in_ok-reply.ensures.next
    (c.push_reserved.ensures.items ∙ ap (λ (l : List Entry). l ++ entry c.args.event c.in_ok-reply.reply ∷ []) c.reserve.ensures.items)).legal
