use Rattle.std.proofs.Common.{◌≡◌, take}
use Rattle.vx_sampling.specs.Votes.{rows_votes}
use Rattle.vx_sampling.proofs.said.rows_votes.Given as goal

abbrev pub invariant-loop-row : goal.invariant-loop-row
invariant-loop-row l = l.sum ≡ rows_votes l.selection (take l.row-index l.rows)
