use Rattle.std.proofs.Common.{◌≡◌, [], length}
use Rattle.std.specs.Prelude.{All}
use Rattle.vx_tally.specs.Running.{SumsUp}
use Rattle.vx_results.proofs.summing.piles_of.Given as goal

abbrev pub invariant-loop-place : goal.invariant-loop-place
invariant-loop-place l = (length l.piles.items ≡ l.place) × All (SumsUp []) l.piles.items
