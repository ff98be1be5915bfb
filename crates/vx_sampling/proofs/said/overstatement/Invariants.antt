use Rattle.std.proofs.Common.{◌≡◌, map, take, max}
use Rattle.std.specs.Prelude.{fold}
use Rattle.std.specs.List.{flat_map}
use Rattle.vx_sampling.specs.Said.{overstated}
use Rattle.vx_sampling.proofs.said.overstatement.Given as goal

abbrev pub invariant-loop-winner : goal.invariant-loop-winner
invariant-loop-winner l = l.most ≡ fold max 0 (flat_map (λ winner. map (overstated winner) l.rivals) (take l.winner-index l.winners))
