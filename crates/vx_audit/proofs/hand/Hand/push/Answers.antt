use Rattle.std.proofs.Common.{◌≡◌, ◌∙◌, ap, subst, List, ◌++◌, ◌∷◌, [], length, rules}
use Rattle.std.specs.List.{list_any}
use Rattle.vx_audit.specs.declared.hand.HandLine.{HandLine}
use Rattle.vx_audit.specs.Hand.{is_for}
use Rattle.vx_audit.specs.Places.{AreFound}
use Rattle.vx_audit.proofs.LinePlaces.{found-push}
use Rattle.vx_audit.proofs.hand.Hand.push.Goals as goal

pub invariant_of-self-2 : goal.invariant_of-self-2
invariant_of-self-2 c =
    let line = c.args.line in
    let lines = c.self.inside.lines.items in
    let count : c.len.result ≡ length lines = search rules in
    let all : lines ++ line ∷ [] ≡ c.push.new.self.items = search rules in
    let none = ap (list_any (is_for line.ballot line.contest)) c.self.view_is ∙ c.requires in
    subst (λ (items : List HandLine). AreFound items c.insert.new.self) all
    (found-push lines line c.self.inside.places c.insert.new.self c.len.result count c.self.invariant c.in_ok-insert.ensures.updates none)
