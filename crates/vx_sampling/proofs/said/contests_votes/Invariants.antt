use Rattle.std.proofs.Common.{◌≡◌, take}
use Rattle.std.specs.Prelude.{sum_by}
use Rattle.vx_sampling.specs.Votes.{contest_votes}
use Rattle.vx_sampling.proofs.said.contests_votes.Given as goal

abbrev pub invariant-loop-counted : goal.invariant-loop-counted
invariant-loop-counted l = l.sum ≡ sum_by (contest_votes l.contest l.selection) (take l.counted-index l.contests)
