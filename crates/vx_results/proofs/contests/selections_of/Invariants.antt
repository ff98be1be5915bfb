use Rattle.std.proofs.Common.{◌≡◌, map}
use Rattle.std.specs.List.{range_with_len}
use Rattle.vx_cvr.specs.Names.{selection_name}
use Rattle.vx_results.proofs.contests.selections_of.Given as goal

abbrev pub invariant-loop-option : goal.invariant-loop-option
invariant-loop-option l = l.selections.items ≡ map (selection_name l.contest.id) (range_with_len 0 l.option)
