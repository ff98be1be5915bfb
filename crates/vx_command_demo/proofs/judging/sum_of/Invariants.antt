use Rattle.std.proofs.Common.{◌≡◌, ◌≤◌, ◌*◌, ◌^◌, sum, take}
use Rattle.vx_command_demo.proofs.judging.sum_of.Given as goal

-- the sum of the scores so far
abbrev pub invariant-loop-score : goal.invariant-loop-score
invariant-loop-score l = record {
  sum : l.total ≡ sum (take l.score-index l.scores);
  bound : l.total ≤ l.score-index * 2 ^ 32;
}
