use Rattle.std.proofs.Common.{◌≡◌, drop}
use Rattle.vx_desk.specs.Kept as spec
use Rattle.vx_desk.proofs.kept.same_states.Given as goal

-- what is left is the same where all is
abbrev pub invariant-loop-k : goal.invariant-loop-k
invariant-loop-k l = spec.same_list spec.same_state (drop l.k l.one) (drop l.k l.other) ≡ spec.same_list spec.same_state l.one l.other
