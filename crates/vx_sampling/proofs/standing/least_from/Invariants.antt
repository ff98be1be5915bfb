use Rattle.std.proofs.Common.{◌≡◌, take, min}
use Rattle.std.specs.Prelude.{fold}
use Rattle.vx_sampling.proofs.standing.least_from.Given as goal

abbrev pub invariant-loop-votes : goal.invariant-loop-votes
invariant-loop-votes l = l.least ≡ fold min l.first (take l.votes-index l.rest)
