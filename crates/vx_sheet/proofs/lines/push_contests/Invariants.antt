use Rattle.std.proofs.Common.{◌≡◌, ◌++◌, drop, string_bytes}
use Rattle.std.specs.List.{flat_map}
use Rattle.vx_sheet.specs.Lines.{contest_lines}
use Rattle.vx_sheet.proofs.lines.push_contests.Given as goal

-- the text so far and the lines of the contests that are left
abbrev pub invariant-loop-marks : goal.invariant-loop-marks
invariant-loop-marks l =
    string_bytes l.text ++ flat_map (contest_lines l.election l.batch l.number l.blank) (drop l.marks-index l.contests)
    ≡ string_bytes l.initial.text ++ flat_map (contest_lines l.election l.batch l.number l.blank) l.contests
