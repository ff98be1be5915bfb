use Rattle.std.proofs.Common.{◌≡◌}
use Rattle.std.specs.List.{flat_map, range_with_len}
use Rattle.vx_sheet.specs.Sheet.{marks_if_on}
use Rattle.vx_sheet.proofs.marks.marks_on.Given as goal

abbrev pub invariant-loop-contest : goal.invariant-loop-contest
invariant-loop-contest l = l.list.items ≡ flat_map (marks_if_on l.plan l.front l.back) (range_with_len 0 l.contest)
