-- What the two images of a sheet come to, before the journal is asked.
use Rattle.std.specs.Prelude.{ℕ, ◌+◌, [], Result, Ok, Err}
use Rattle.vx_election_model.specs.declared.election.Election.{Election}
use Rattle.vx_layout.specs.declared.plan.CardPlan.{CardPlan}
use Rattle.vx_layout.specs.declared.fault.LayoutFault.{LayoutFault}
use Rattle.vx_layout.specs.Plan.{plan_of}
use Rattle.vx_rules.specs.declared.marks.SheetMarks.{SheetMarks}
use Rattle.vx_scan_model.specs.declared.reading.PageReading.{PageReading}
use Rattle.vx_scan_model.specs.declared.fault.PageFault.{PageFault}
use Rattle.vx_sheet.specs.declared.fault.SheetFault.{SheetFault}
use Rattle.vx_sheet.specs.Sheet.{sheet_of}
use Rattle.vx_sheet.specs.declared.came.Came.{Came}
use Rattle.vx_sheet.specs.declared.came.Came.TheVariants.{Unread, Unpaired}

-- the plan of a card, which is there for a card that was read
abbrev pub plan_there : ℕ → Result CardPlan LayoutFault → CardPlan
plan_there card (Ok plan) = plan
plan_there card (Err fault) = record { card = card; pages = []; hollow = 0 }

-- the sheet of two readings, or that they don't pair
abbrev pub if_paired : Result SheetMarks SheetFault → Result SheetMarks Came
if_paired (Ok sheet) = Ok sheet
if_paired (Err fault) = Err (Unpaired fault)

-- the sheet of two images, the first of which has a number: the first of them that has a fault can't be read, two that
-- can be read pair or don't
abbrev pub sheet_read : Election → ℕ → Result PageReading PageFault → Result PageReading PageFault → Result SheetMarks Came
sheet_read election image (Err fault) second = Err (Unread image fault)
sheet_read election image (Ok first) (Err fault) = Err (Unread (image + 1) fault)
sheet_read election image (Ok first) (Ok second) =
    if_paired (sheet_of (plan_there first.code.card (plan_of election first.code.card)) first second)
