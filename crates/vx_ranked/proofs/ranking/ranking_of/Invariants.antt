use Rattle.std.proofs.Common.{◌≡◌, [], drop, map}
use Rattle.vx_ranked.specs.Rankings.{final_on}
use Rattle.vx_ranked.proofs.Ranked.{listed}
use Rattle.vx_ranked.proofs.ranking.ranking_of.Given as goal

abbrev pub invariant-loop-contest : goal.invariant-loop-contest
invariant-loop-contest l = listed l.ranking.items (map (final_on l.finals) (drop l.contest-index l.contests))
    ≡ listed [] (map (final_on l.finals) l.contests)
