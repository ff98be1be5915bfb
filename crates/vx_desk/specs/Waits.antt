-- Which sheets of a batch have a contest that waits for a decision, by the rule of the center.
use Rattle.std.specs.Prelude.{ℕ, ◌&&◌, Bool, false, List, length, filter, bytes_eq, Option, None, Some}
use Rattle.std.specs.List.{flat_map, list_any}
use Rattle.vx_election_model.specs.declared.election.Election.{Election}
use Rattle.vx_rules.specs.declared.marks.ContestMarks.{ContestMarks}
use Rattle.vx_rules.specs.declared.marks.SheetMarks.{SheetMarks}
use Rattle.vx_rules.specs.Reasons.{is_blank_sheet}
use Rattle.vx_events.specs.declared.event.Event.{Event}
use Rattle.vx_events.specs.declared.key.Key.{Key}
use Rattle.vx_center.specs.Sheets.{Added, key_of, sheet_in, sheets_in}
use Rattle.vx_center.specs.Waiting.{contest_waits}

-- the contests of a sheet that wait, in the sheet's order
abbrev pub waiting_contests : Election → List Event → Key → SheetMarks → List ContestMarks
waiting_contests election kept key sheet =
    filter (contest_waits election kept key (is_blank_sheet sheet)) sheet.contests

-- whether a contest of a sheet waits, if the sheet was added
abbrev pub any_waits : Election → List Event → Key → Option SheetMarks → Bool
any_waits election kept key None = false
any_waits election kept key (Some sheet) =
    list_any (contest_waits election kept key (is_blank_sheet sheet)) sheet.contests

-- the sheet of a batch with a number was added, and a contest of it waits
unfoldable pub sheet_waits : Election → List Event → List ℕ → ℕ → Bool
sheet_waits election kept batch number =
    any_waits election kept (key_of batch number) (sheet_in kept (key_of batch number))

-- whether a sheet is of a batch, and a contest of it waits
abbrev pub waits_in : Election → List Event → List ℕ → Added → Bool
waits_in election kept batch added =
    bytes_eq added.key.batch batch && any_waits election kept added.key (Some added.sheet)

-- the sheets of a batch with a contest that waits, in the order of adding
abbrev pub waiting_sheets : Election → List Event → List ℕ → List Added
waiting_sheets election kept batch = filter (waits_in election kept batch) (sheets_in kept)

-- the contests that wait on a sheet that was added
abbrev pub waiting_of : Election → List Event → Added → List ContestMarks
waiting_of election kept added = waiting_contests election kept added.key added.sheet

-- how many contests wait on the sheets of a batch
abbrev pub waiting_in : Election → List Event → List ℕ → ℕ
waiting_in election kept batch = length (flat_map (waiting_of election kept) (waiting_sheets election kept batch))
