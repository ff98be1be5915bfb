use Rattle.std.proofs.Common.{◌≡◌, drop}
use Rattle.std.specs.Prelude.{fold}
use Rattle.vx_ranked.specs.Rankings.{joined}
use Rattle.vx_ranked.proofs.ranking.join_all.Given as goal

abbrev pub invariant-loop-candidate : goal.invariant-loop-candidate
invariant-loop-candidate l = fold joined l.ranking.items (drop l.candidate-index l.candidates) ≡ fold joined l.initial.ranking.items l.candidates
