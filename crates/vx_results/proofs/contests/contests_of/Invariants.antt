use Rattle.std.proofs.Common.{◌≡◌, map, take}
use Rattle.vx_results.specs.Report.{contest_of}
use Rattle.vx_results.proofs.contests.contests_of.Given as goal

abbrev pub invariant-loop-contest : goal.invariant-loop-contest
invariant-loop-contest l = l.made.items ≡ map contest_of (take l.contest-index l.contest-items)
