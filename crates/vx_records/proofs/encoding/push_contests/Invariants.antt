use Rattle.std.proofs.Common.{◌≡◌, ◌++◌, drop, map, string_bytes}
use Rattle.vx_records.specs.Records.{marks_word, spaced}
use Rattle.vx_records.proofs.encoding.push_contests.Given as goal

-- the text so far and the words of the contests that are left
abbrev pub invariant-loop-marks : goal.invariant-loop-marks
invariant-loop-marks l =
    string_bytes l.text ++ spaced (map marks_word (drop l.marks-index l.contests)) ≡ string_bytes l.initial.text ++ spaced (map marks_word l.contests)
