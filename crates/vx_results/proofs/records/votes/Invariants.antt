use Rattle.std.proofs.Common.{◌≡◌, map, take}
use Rattle.vx_results.specs.Report.{vote_of}
use Rattle.vx_results.proofs.records.votes.Given as goal

abbrev pub invariant-loop-option : goal.invariant-loop-option
invariant-loop-option l = l.votes.items ≡ map (vote_of l.contest l.counted) (take l.option-index l.options)
