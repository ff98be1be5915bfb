use Rattle.std.proofs.Common.{◌≡◌, ◌∷◌, ◌++◌, [], rules}
use Rattle.vx_command_demo.specs.Election as spec
use Rattle.vx_command_demo.proofs.Made.{one_numbered}
use Rattle.vx_command_demo.proofs.election.ids.Goals as goal

pub loop-number-preserved : goal.loop-number-preserved
loop-number-preserved c =
    let pushed : c.push.new.self.items ≡ c.loop-number.values.items ++ c.in_ok-numbered_text.field-0 ∷ [] = search rules in
    rw pushed
    (one_numbered (spec.numbered_text c.args.word.now) c.args.first c.loop-number.number c.loop-number.values.items c.in_ok-numbered_text.field-0 c.in_ok-numbered_text.ensures c.loop-number.invariant)
