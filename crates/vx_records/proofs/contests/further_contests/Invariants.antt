use Rattle.std.proofs.Common.{◌≡◌, ◌-◌}
use Rattle.vx_records.specs.Parts.{behind, each_in}
use Rattle.vx_records.specs.Reading.{contest_in, next_room}
use Rattle.vx_records.proofs.contests.further_contests.Given as goal

-- the contests so far, and those that follow
abbrev pub invariant-loop-left : goal.invariant-loop-left
invariant-loop-left l =
    behind l.initial.list.items (each_in contest_in next_room 500 l.fn.place l.text)
    ≡ behind l.list.items (each_in contest_in next_room (500 - l._left) l.next l.rest)
