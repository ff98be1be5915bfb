use Rattle.std.proofs.Common.{◌≡◌, take, max}
use Rattle.std.specs.Prelude.{fold}
use Rattle.vx_sampling.proofs.standing.most.Given as goal

abbrev pub invariant-loop-votes : goal.invariant-loop-votes
invariant-loop-votes l = l.most ≡ fold max l.slots (take l.votes-index l.losing)
