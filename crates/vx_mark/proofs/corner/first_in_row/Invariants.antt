use Rattle.std.proofs.Common.{ℕ, ◌≤◌, ◌<◌, ◌+◌, ◌*◌}
use Rattle.vx_mark_model.specs.Mark.{IsAccepted}
use Rattle.vx_mark.specs.Search.{place_in}
use Rattle.vx_mark.proofs.corner.first_in_row.Given as goal

abbrev pub invariant-loop-group : goal.invariant-loop-group
invariant-loop-group l = (w : ℕ) → 26 ≤ w → w < 26 + 23 * l.group → w < l.past → IsAccepted l.counter (place_in w l.v) → ⊥
