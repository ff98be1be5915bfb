use Rattle.std.proofs.Common.{◌≡◌, ◌++◌, drop, map, false}
use Rattle.std.specs.Prelude.{filter}
use Rattle.serde_json.specs.View.{items_of}
use Rattle.serde_json.specs.Written.{items_text}
use Rattle.vx_markup.specs.Escaped.{escaped}
use Rattle.vx_desk.specs.Lines as lines
use Rattle.vx_center.specs.Waiting.{contest_waits}
use Rattle.vx_desk.proofs.contests.push_items.Given as goal

-- what was written of those so far, and what is still to be written of those left, are all
abbrev pub invariant-loop-marks : goal.invariant-loop-marks
invariant-loop-marks l =
    l.text ++ escaped (items_text l.is_later (items_of (map (lines.contest_on l.election l.sheet_blank l.first l.second)
    (filter (contest_waits l.election l.center.events l.key l.sheet_blank) (drop l.marks-index l.contests)))))
    ≡ l.fn.text ++ escaped (items_text false (items_of (map (lines.contest_on l.election l.sheet_blank l.first l.second)
    (filter (contest_waits l.election l.center.events l.key l.sheet_blank) l.contests))))
