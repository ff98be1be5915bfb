-- Which sheets lines are written of, and which readings make a sheet that a journal keeps.
use Rattle.std.specs.Prelude.{◌≡◌, ◌<◌, ℕ, List, true, length, IfOk, Result, Ok}
use Rattle.std.specs.List.{list_all}
use Rattle.vx_plane.specs.Plane.{Page}
use Rattle.vx_election_model.specs.declared.election.Election.{Election}
use Rattle.vx_election_model.specs.Valid.{IsValid}
use Rattle.vx_events.specs.declared.event.Event.{Event}
use Rattle.vx_events.specs.declared.event.Event.TheVariants.{Add}
use Rattle.vx_events.specs.declared.key.Key.{Key}
use Rattle.vx_events.specs.Fits.{Fits, is_batch, is_key, is_read, is_sheet}
use Rattle.vx_layout.specs.declared.pages.PagePlan.{PagePlan}
use Rattle.vx_layout.specs.declared.plan.CardPlan.{CardPlan}
use Rattle.vx_layout.specs.Options.{ShowsEachOption, GivesEachContestAPage}
use Rattle.vx_layout.specs.Plan.{plan_of}
use Rattle.vx_records.specs.Held.{IsHeld}
use Rattle.vx_rules.specs.declared.marks.SheetMarks.{SheetMarks}
use Rattle.vx_scan_model.specs.declared.fault.PageFault.{PageFault}
use Rattle.vx_scan_model.specs.declared.reading.PageReading.{PageReading}
use Rattle.vx_scan_model.specs.Named.{named_plan}
use Rattle.vx_scan_model.specs.Reading.{reading_of}
use Rattle.vx_sheet.specs.Came.{sheet_read}
use Rattle.vx_sheet.specs.Events.{event_of}
use Rattle.vx_sheet.specs.declared.came.Came.{Came}
use Rattle.vx_sheet.specs.declared.came.Came.TheVariants.{Added}

-- a sheet that was added has a state for each option of each of its contests, which are the election's
abbrev pub IsReadAll : Election → Came → Type 0
IsReadAll election (Added sheet) = list_all (is_read election) sheet.contests ≡ true
IsReadAll election came = Unit {0}

-- a reading is of the planned page that its code names, with a state for each of its bubbles
pub record IsOfPage (election : Election) (reading : PageReading) : Type 0 where
  pub plan : PagePlan
  pub named : named_plan election reading.code ≡ Ok plan
  pub states : length reading.states ≡ length plan.bubbles

-- the bubbles of a plan are all options of its card's contests, each contest's on one page
pub record ShowsOptions (election : Election) (card : ℕ) (plan : CardPlan) : Type 0 where
  pub options : ShowsEachOption election card plan
  pub pages : GivesEachContestAPage plan

-- so of every planned card of an election
abbrev pub PlansShowOptions : Election → Type 0
PlansShowOptions election =
    (card : ℕ) (plan : CardPlan) → plan_of election card ≡ Ok plan → ShowsOptions election card plan

-- a sheet fits the election, and with every key that there may be it has a record
pub record CanBeAdded (election : Election) (sheet : SheetMarks) : Type 0 where
  pub fits : is_sheet election sheet ≡ true
  pub held : (key : Key) → is_key key ≡ true → IsHeld (Add key sheet)

-- the sheet of two images that were read can be added
abbrev pub PairedCanBeAdded : Type 0
PairedCanBeAdded =
    (election : Election) (image : ℕ) (first second : Result PageReading PageFault) (sheet : SheetMarks)
    → IsValid election → PlansShowOptions election → IfOk first (IsOfPage election) → IfOk second (IsOfPage election)
    → sheet_read election image first second ≡ Ok sheet → CanBeAdded election sheet

-- an event fits the election, and has a record
pub record IsKeepable (election : Election) (event : Event) : Type 0 where
  pub fits : Fits election event
  pub held : IsHeld event

-- so does the event of two images
abbrev pub SheetEventsAreKeepable : Type 0
SheetEventsAreKeepable =
    (election : Election) (batch : List ℕ) (number image : ℕ) (first second : Page) (event : Event)
    → IsValid election → is_batch batch ≡ true → 0 < number
    → event_of batch number (sheet_read election image (reading_of election first) (reading_of election second)) ≡ Ok event
    → IsKeepable election event
