use Rattle.std.proofs.Common.{◌≡◌, map, take, max}
use Rattle.std.specs.Prelude.{fold}
use Rattle.vx_sampling.specs.Said.{overstated}
use Rattle.vx_sampling.proofs.said.greatest.Given as goal

abbrev pub invariant-loop-rival : goal.invariant-loop-rival
invariant-loop-rival l = l.most ≡ fold max l.before (map (overstated l.winner) (take l.rival-index l.rivals))
