use Rattle.std.proofs.Common.{◌≡◌}
use Rattle.std.specs.Prelude.{filter}
use Rattle.std.specs.List.{range_with_len}
use Rattle.vx_results.specs.Figures.{stands_in}
use Rattle.vx_results.proofs.standing.contest_units.Given as goal

abbrev pub invariant-loop-place : goal.invariant-loop-place
invariant-loop-place l = l.units.items ≡ filter (stands_in l.election l.contest) (range_with_len 1 l.place)
