-- What holds of the sheets of two readings.
use Rattle.std.specs.Prelude.{◌≡◌, ℕ, true, length, Some, Ok}
use Rattle.vx_election_model.specs.declared.election.Election.{Election}
use Rattle.vx_election_model.specs.Valid.{IsValid}
use Rattle.vx_layout.specs.declared.pages.PagePlan.{PagePlan}
use Rattle.vx_layout.specs.declared.plan.CardPlan.{CardPlan}
use Rattle.vx_layout.specs.Options.{ShowsEachOption, GivesEachContestAPage}
use Rattle.vx_layout.specs.Plan.{plan_of}
use Rattle.vx_scan_model.specs.declared.reading.PageReading.{PageReading}
use Rattle.vx_scan_model.specs.Named.{page_numbered}
use Rattle.vx_rules.specs.declared.marks.SheetMarks.{SheetMarks}
use Rattle.vx_events.specs.Fits.{is_sheet}
use Rattle.vx_sheet.specs.Sheet.{sheet_of}

-- the same sheet, whichever page comes first
abbrev pub EitherPageFirst : Type 0
EitherPageFirst =
    (plan : CardPlan) (first second : PageReading) (sheet : SheetMarks)
    → sheet_of plan first second ≡ Ok sheet → sheet_of plan second first ≡ Ok sheet

-- a reading is of a page of the plan, with a state for each bubble
pub record IsOfCard (plan : CardPlan) (reading : PageReading) : Type 0 where
  pub page : PagePlan
  pub numbered : page_numbered plan reading.code.page ≡ Some page
  pub states : length reading.states ≡ length page.bubbles

-- a plan of a card of the election, as it is made: its bubbles are all options of the card's contests,
-- each contest's on one page
pub record IsPlanned (election : Election) (card : ℕ) (plan : CardPlan) : Type 0 where
  pub planned : plan_of election card ≡ Ok plan
  pub options : ShowsEachOption election card plan
  pub pages : GivesEachContestAPage plan

-- the sheet of two readings of a planned card fits the election
abbrev pub SheetsFit : Type 0
SheetsFit =
    (election : Election) (plan : CardPlan) (first second : PageReading) (sheet : SheetMarks)
    → IsValid election → IsPlanned election first.code.card plan → IsOfCard plan first → IsOfCard plan second
    → sheet_of plan first second ≡ Ok sheet → is_sheet election sheet ≡ true
