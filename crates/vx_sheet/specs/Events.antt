-- Which event the sheet of two images makes, if it makes one.
use Rattle.std.specs.Prelude.{ℕ, nat_lt, if◌then◌else◌, List, Result, Ok, Err}
use Rattle.vx_events.specs.declared.event.Event.{Event}
use Rattle.vx_events.specs.declared.event.Event.TheVariants.{Add}
use Rattle.vx_rules.specs.declared.marks.SheetMarks.{SheetMarks}
use Rattle.vx_sheet.specs.declared.came.Came.{Came}
use Rattle.vx_sheet.specs.declared.came.Came.TheVariants.{Beyond}

-- the most that a sheet's number may be
abbrev pub number_limit : ℕ
number_limit = 999999

-- the event of the sheet of a batch with a number, of whose images this was read: an Add where they are a sheet, unless
-- its number is above the most; or else what it comes to
abbrev pub event_of : List ℕ → ℕ → Result SheetMarks Came → Result Event Came
event_of batch number (Err came) = Err came
event_of batch number (Ok sheet) =
    if nat_lt number_limit number then Err Beyond else Ok (Add (record { batch = batch; number = number }) sheet)
