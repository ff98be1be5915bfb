-- What is counted of the pages and the sheets of a demo.
use Rattle.std.specs.Prelude.{ℕ, ◌==◌, ◌&&◌, Bool, true, false, not, is_ok, List, [], ◌∷◌, length, sum, sum_by, count_by, ℤ, pos, ◌+ℤ◌, Result, Ok, Err}
use Rattle.vx_plane.specs.Plane.{Page}
use Rattle.vx_grid.specs.declared.places.Point.{Point}
use Rattle.vx_grid.specs.declared.state.State.{State}
use Rattle.vx_grid.specs.declared.state.State.TheVariants.{Marked, Marginal, Clear}
use Rattle.vx_election_model.specs.declared.election.Election.{Election}
use Rattle.vx_election_model.specs.declared.reason.Reason.{Reason}
use Rattle.vx_election_model.specs.declared.reason.Reason.TheVariants.{Overvote, Undervote, MarginalMark, BlankBallot, WriteIn}
use Rattle.vx_layout.specs.Flow.{contest_at}
use Rattle.vx_layout.specs.Printed.{PrintedPage}
use Rattle.vx_rules.specs.declared.marks.ContestMarks.{ContestMarks}
use Rattle.vx_rules.specs.declared.marks.SheetMarks.{SheetMarks}
use Rattle.vx_rules.specs.Reasons.{holds, is_blank_sheet, is_marked}
use Rattle.vx_scan_model.specs.declared.reading.PageReading.{PageReading}
use Rattle.vx_scan_model.specs.declared.fault.PageFault.{PageFault}
use Rattle.vx_scan_model.specs.Reading.{reading_of}
use Rattle.vx_check.specs.Tests.{tested}
use Rattle.vx_sheet.specs.declared.came.Came.{Came}
use Rattle.vx_sheet.specs.Came.{sheet_read}
use Rattle.vx_command_demo.specs.declared.sums.PageSums.{PageSums}
use Rattle.vx_command_demo.specs.declared.sums.ReasonSums.{ReasonSums}
use Rattle.vx_command_demo.specs.Trials.{Trial}

-- what a page is read as, or why it isn't
abbrev pub read_as : Election → Trial → Result PageReading PageFault
read_as election trial = reading_of election trial.scan

-- what is counted of a reading, and nothing of a page that isn't read
abbrev pub of_reading : {A : Type 0} → A → (PageReading → A) → Result PageReading PageFault → A
of_reading nothing count (Ok reading) = count reading
of_reading nothing count (Err fault) = nothing

-- a bubble is read as it was marked or not
abbrev pub is_read_so : State → Bool → Bool
is_read_so Marked mark = mark
is_read_so Marginal mark = false
is_read_so Clear mark = not mark

-- so are all bubbles of a page
abbrev pub are_read_so : List State → List Bool → Bool
are_read_so [] [] = true
are_read_so [] (mark ∷ marks) = false
are_read_so (state ∷ states) [] = false
are_read_so (state ∷ states) (mark ∷ marks) = is_read_so state mark && are_read_so states marks

-- a reading says the card and the page that were printed, and the marks that were drawn
abbrev pub says : PrintedPage → List Bool → PageReading → Bool
says printed marks reading =
    (reading.code.card == printed.card && reading.code.page == printed.page) && are_read_so reading.states marks

-- a page is read as it was printed and marked
abbrev pub is_as_truth : Election → Trial → Bool
is_as_truth election trial = of_reading false (says trial.printed trial.marks) (read_as election trial)

-- the checker accepts a reading of a scan
abbrev pub is_accepted : Election → Page → PageReading → Bool
is_accepted election scan reading = is_ok (tested election scan reading)

-- the checker accepts what a page is read as
abbrev pub is_certified : Election → Trial → Bool
is_certified election trial =
    of_reading false (is_accepted election trial.scan) (read_as election trial)

-- how many bubbles of a page are read as marked
abbrev pub marks_read : PageReading → ℕ
marks_read reading = count_by is_marked reading.states

abbrev pub marks_on : Election → Trial → ℕ
marks_on election trial = of_reading 0 marks_read (read_as election trial)

-- a sum of whole numbers with a sign
abbrev pub int_sum_by : {A : Type 0} → (A → ℤ) → List A → ℤ
int_sum_by number [] = pos 0
int_sum_by number (x ∷ xs) = number x +ℤ int_sum_by number xs

-- the columns and the rows of the border places of a page, added up
abbrev pub columns_at : List Point → ℤ
columns_at places = int_sum_by (λ (p : Point). p.u) places

abbrev pub columns_read : PageReading → ℤ
columns_read reading = columns_at reading.border.places

abbrev pub columns_on : Election → Trial → ℤ
columns_on election trial = of_reading (pos 0) columns_read (read_as election trial)

abbrev pub rows_at : List Point → ℤ
rows_at places = int_sum_by (λ (p : Point). p.v) places

abbrev pub rows_read : PageReading → ℤ
rows_read reading = rows_at reading.border.places

abbrev pub rows_on : Election → Trial → ℤ
rows_on election trial = of_reading (pos 0) rows_read (read_as election trial)

-- the scores of its bubbles, added up
abbrev pub scores_read : PageReading → ℕ
scores_read reading = sum reading.scores

abbrev pub scores_on : Election → Trial → ℕ
scores_on election trial = of_reading 0 scores_read (read_as election trial)

-- what is counted of pages
abbrev pub page_sums : Election → List Trial → PageSums
page_sums election trials = record {
  pages = length trials;
  as_truth = count_by (is_as_truth election) trials;
  certified = count_by (is_certified election) trials;
  marks = sum_by (marks_on election) trials;
  columns = int_sum_by (columns_on election) trials;
  rows = int_sum_by (rows_on election) trials;
  scores = sum_by (scores_on election) trials;
}

-- whether a reason holds of a contest of a sheet, whether it is enabled or not
abbrev pub has : Election → Bool → Reason → ContestMarks → Bool
has election blank reason marks = holds (contest_at election.contests marks.contest) marks.states blank reason

-- for how many contests of a sheet it holds
abbrev pub contests_with : Election → Reason → SheetMarks → ℕ
contests_with election reason sheet = count_by (has election (is_blank_sheet sheet) reason) sheet.contests

-- none of what is no sheet
abbrev pub of_sheet : (SheetMarks → ℕ) → Result SheetMarks Came → ℕ
of_sheet count (Ok sheet) = count sheet
of_sheet count (Err came) = 0

-- the same of the pages of a sheet
abbrev pub times : Election → Reason → List Trial → ℕ
times election reason (front ∷ back ∷ []) =
    of_sheet (contests_with election reason) (sheet_read election 1 (read_as election front) (read_as election back))
times election reason trials = 0

-- what is counted of sheets: reasons
abbrev pub reason_sums : Election → List (List Trial) → ReasonSums
reason_sums election sheets = record {
  overvote = sum_by (times election Overvote) sheets;
  undervote = sum_by (times election Undervote) sheets;
  marginal = sum_by (times election MarginalMark) sheets;
  blank = sum_by (times election BlankBallot) sheets;
  write_in = sum_by (times election WriteIn) sheets;
}
