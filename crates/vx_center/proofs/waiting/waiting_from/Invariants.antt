use Rattle.std.proofs.Common.{◌≡◌, ◌<◌, ◌≤◌, ℕ, false}
use Rattle.std.specs.Prelude.{slice_get}
use Rattle.vx_center.specs.Waiting.{waits_by}
use Rattle.vx_center.proofs.waiting.waiting_from.Given as goal

abbrev pub invariant-loop-place : goal.invariant-loop-place
invariant-loop-place l = (place : ℕ) → l.from ≤ place → place < l.place → waits_by l.election l.sheet l.decided (slice_get l.sheet.contests place) ≡ false
