use Rattle.std.proofs.Common.{ℕ, ◌≤◌, ◌<◌}
use Rattle.vx_mark_model.specs.Mark.{IsAccepted}
use Rattle.vx_mark.specs.Search.{place_in}
use Rattle.vx_mark.proofs.corner.first_in_group.Given as goal

abbrev pub invariant-loop-u : goal.invariant-loop-u
invariant-loop-u l = (w : ℕ) → l.fn.columns.first ≤ w → w < l.u → IsAccepted l.counter (place_in w l.v) → ⊥
