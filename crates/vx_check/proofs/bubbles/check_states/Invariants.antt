use Rattle.std.proofs.Common.{◌≡◌, ◌<◌, ℕ}
use Rattle.std.specs.Prelude.{slice_get, Ok}
use Rattle.vx_check.specs.Tests.{state_tested}
use Rattle.vx_check.proofs.bubbles.check_states.Given as goal

-- the states so far pass
abbrev pub invariant-loop-j : goal.invariant-loop-j
invariant-loop-j l = (i : ℕ) → i < l.j → state_tested l.thresholds i (slice_get l.said i) (slice_get l.scores i) ≡ Ok tt
