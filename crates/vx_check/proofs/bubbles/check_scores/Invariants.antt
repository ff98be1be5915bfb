use Rattle.std.proofs.Common.{◌≡◌, ◌<◌, ℕ}
use Rattle.std.specs.Prelude.{slice_get, option_map, Ok}
use Rattle.vx_scan_model.specs.Reading.{bubble_score}
use Rattle.vx_check.specs.Tests.{score_tested}
use Rattle.vx_check.proofs.bubbles.check_scores.Given as goal

-- the scores so far pass
abbrev pub invariant-loop-j : goal.invariant-loop-j
invariant-loop-j l = (i : ℕ) → i < l.j → score_tested i (slice_get l.said i) (option_map (bubble_score l.counter l.border) (slice_get l.bubbles i)) ≡ Ok tt
