-- Two images that fit the pages of a sheet as it was printed and marked, and what they are read as.
use Rattle.std.specs.Prelude.{◌≡◌, ◌⊎◌, ℕ, ◌+◌, ◌%◌, ◌==◌, ◌||◌, if◌then◌else◌, List, [], ◌∷◌, ◌++◌, map, Bool, Ok}
use Rattle.std.specs.List.{flat_map, range_with_len}
use Rattle.vx_plane.specs.Plane.{Page}
use Rattle.vx_count.specs.Turned.{IsWhole}
use Rattle.vx_grid.specs.declared.kind.Kind.{Kind}
use Rattle.vx_election_model.specs.declared.election.Election.{Election}
use Rattle.vx_election_model.specs.Valid.{IsValid}
use Rattle.vx_layout.specs.declared.bubbles.Bubble.{Bubble}
use Rattle.vx_layout.specs.declared.pages.PagePlan.{PagePlan}
use Rattle.vx_layout.specs.Printed.{PrintedPage}
use Rattle.vx_rules.specs.declared.marks.ContestMarks.{ContestMarks}
use Rattle.vx_rules.specs.declared.marks.SheetMarks.{SheetMarks}
use Rattle.vx_scan_model.specs.Fits.{Fits, state_of_mark}
use Rattle.vx_scan_model.specs.Reading.{reading_of}
use Rattle.vx_sheet.specs.Came.{sheet_read}
use Rattle.vx_sheet.specs.Sheet.{contest_limit, has_bubble}

-- A sheet that was printed and marked: the front of a card and its back, of one kind, both of test ballots or neither,
-- with the plan of each of the two pages, and for each of its bubbles whether it is marked.
pub record MarkedSheet : Type 0 where
  pub card : ℕ
  pub front : ℕ
  pub kind : Kind
  pub test : Bool
  pub front_plan : PagePlan
  pub front_marks : List Bool
  pub back_plan : PagePlan
  pub back_marks : List Bool

-- its two pages, whose numbers follow each other
abbrev pub front_of : MarkedSheet → PrintedPage
front_of sheet = record { card = sheet.card; page = sheet.front; kind = sheet.kind; test = sheet.test }

abbrev pub back_of : MarkedSheet → PrintedPage
back_of sheet = record { card = sheet.card; page = sheet.front + 1; kind = sheet.kind; test = sheet.test }

-- which bubbles of a contest on a page are marked, in the order of its options
abbrev pub marks_of : ℕ → List Bubble → List Bool → List Bool
marks_of contest [] marks = []
marks_of contest (bubble ∷ bubbles) [] = []
marks_of contest (bubble ∷ bubbles) (mark ∷ marks) =
    (if bubble.contest == contest then mark ∷ [] else []) ++ marks_of contest bubbles marks

-- a contest of the sheet: each option Marked where its bubble is, else Clear
abbrev pub contest_marked : MarkedSheet → ℕ → ContestMarks
contest_marked sheet contest = record {
  contest = contest;
  states =
      map state_of_mark
      (marks_of contest sheet.front_plan.bubbles sheet.front_marks ++ marks_of contest sheet.back_plan.bubbles sheet.back_marks);
}

-- the same, if it has a bubble on either page
abbrev pub contest_if_on : MarkedSheet → ℕ → List ContestMarks
contest_if_on sheet contest =
    if has_bubble contest sheet.front_plan.bubbles || has_bubble contest sheet.back_plan.bubbles
    then contest_marked sheet contest ∷ [] else []

-- what the sheet has to be counted as: its card, its front, its kind, and the contests with a bubble on either page
abbrev pub sheet_marked : MarkedSheet → SheetMarks
sheet_marked sheet = record {
  card = sheet.card;
  front = sheet.front;
  kind = sheet.kind;
  test = sheet.test;
  contests = flat_map (contest_if_on sheet) (range_with_len 0 contest_limit);
}

-- one image fits the front of a sheet, and another its back
abbrev pub FitsPages : Election → Page → Page → MarkedSheet → Type 0
FitsPages election front back sheet =
    Fits election front (front_of sheet) sheet.front_plan sheet.front_marks
    × Fits election back (back_of sheet) sheet.back_plan sheet.back_marks

-- two images fit the facing pages of a sheet, in either order
pub record FitsSheet (election : Election) (first second : Page) (sheet : MarkedSheet) : Type 0 where
  pub odd : sheet.front % 2 ≡ 1
  pub either : FitsPages election first second sheet ⊎ FitsPages election second first sheet

-- two images that fit a sheet are read and paired as that sheet, with those marks
abbrev pub FittingSheetsAreRead : Type 0
FittingSheetsAreRead =
    (election : Election) (image : ℕ) (first second : Page) (sheet : MarkedSheet)
    → IsValid election → IsWhole first → IsWhole second → FitsSheet election first second sheet
    → sheet_read election image (reading_of election first) (reading_of election second) ≡ Ok (sheet_marked sheet)
