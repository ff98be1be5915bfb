use Rattle.std.proofs.Common.{◌^◌, ◌<◌, length, take}
use Rattle.std.specs.Prelude.{All}
use Rattle.vx_trials_sums.proofs.rounds_counting.are_short.Given as goal

abbrev pub invariant-loop-ranking : goal.invariant-loop-ranking
invariant-loop-ranking l = All (λ ranking. length ranking < 2 ^ 32) (take l.ranking-index l.rankings)
