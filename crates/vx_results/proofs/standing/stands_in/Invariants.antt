use Rattle.std.proofs.Common.{◌≡◌, false}
use Rattle.std.specs.List.{list_any, range_with_len}
use Rattle.vx_results.specs.Figures.{stands_on}
use Rattle.vx_results.proofs.standing.stands_in.Given as goal

abbrev pub invariant-loop-card : goal.invariant-loop-card
invariant-loop-card l = list_any (stands_on l.election l.contest l.unit) (range_with_len 0 l.card) ≡ false
