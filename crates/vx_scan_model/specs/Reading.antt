-- The reading of a scan of an election's page, or its first fault. This project's own rule.
use Rattle.std.specs.Prelude.{ℕ, ◌&&◌, Bool, true, false, nat_le, if◌then◌else◌, List, map, Result, Ok, Err}
use Rattle.std.specs.List.{range_with_len}
use Rattle.vx_plane.specs.Plane.{Page}
use Rattle.vx_grid.specs.declared.paper.Paper.{Paper}
use Rattle.vx_grid.specs.declared.paper.Paper.TheVariants.{Letter, Legal}
use Rattle.vx_grid.specs.Borders.{MarkPlaces}
use Rattle.vx_count.specs.Turned.{turned_page}
use Rattle.vx_grid.specs.declared.state.State.{State}
use Rattle.vx_grid.specs.declared.state.Thresholds.{Thresholds}
use Rattle.vx_election_model.specs.declared.election.Election.{Election}
use Rattle.vx_layout.specs.declared.bubbles.Bubble.{Bubble}
use Rattle.vx_layout.specs.declared.pages.PagePlan.{PagePlan}
use Rattle.vx_code.specs.declared.code.PageCode.{PageCode}
use Rattle.vx_code.specs.declared.code.CodeFault.{CodeFault}
use Rattle.vx_code.specs.Code.{place_of_box, code_shown_by}
use Rattle.vx_mark_model.specs.declared.fault.BorderFault.{BorderFault}
use Rattle.vx_fit.specs.Fit.{place_of}
use Rattle.vx_score.specs.Score.{score_of, code_count_of, state_of}
use Rattle.vx_scan_model.specs.declared.reading.PageReading.{PageReading}
use Rattle.vx_scan_model.specs.declared.fault.PageFault.{PageFault}
use Rattle.vx_scan_model.specs.declared.fault.PageFault.TheVariants.{FrameSize, Border, Code}
use Rattle.vx_base.specs.Results.{◌>>=◌}
use Rattle.vx_scan_model.specs.Border.{border_of}
pub use Rattle.vx_scan_model.specs.Named.{named_plan}

-- the least and the greatest number of rows of an allowed frame
abbrev pub allowed_heights : Paper → ℕ × ℕ
allowed_heights Letter = (2100, 2400)
allowed_heights Legal = (2700, 3000)

-- an allowed frame: 1600 to 2000 columns, and 2100 to 2400 rows or 2700 to 3000 on legal paper
abbrev pub is_allowed : Paper → Page → Bool
is_allowed paper page =
    (nat_le 1600 page.width && nat_le page.width 2000)
    && (nat_le (allowed_heights paper).0 page.height && nat_le page.height (allowed_heights paper).1)

-- the count of box n of the page code: the dark pixels of its window at its grid place
abbrev pub box_count_of : Page → MarkPlaces → ℕ → ℕ
box_count_of page border n =
    code_count_of page (place_of border (place_of_box border.paper n).0 (place_of_box border.paper n).1)

-- the code that is read at the places of a border: the code of its 42 pairs of boxes, or the first
-- pair that is no bit, or a version other than that of the border's paper
unfoldable pub code_read : Page → MarkPlaces → Result PageCode CodeFault
code_read page border = code_shown_by border.paper (map (box_count_of page border) (range_with_len 0 84))

-- the score of a bubble: at its grid place
abbrev pub bubble_score : Page → MarkPlaces → Bubble → ℕ
bubble_score page border bubble = score_of page (place_of border bubble.col bubble.row)

-- the scores of a page's bubbles, in the plan's order
abbrev pub scores_of : Page → MarkPlaces → List Bubble → List ℕ
scores_of page border bubbles = map (bubble_score page border) bubbles

-- what bubbles of these scores are read as
abbrev pub states_of : Thresholds → List ℕ → List State
states_of thresholds scores = map (λ score. state_of score thresholds) scores

-- the reading of a page that is planned so, as it lies
abbrev pub reading_on : Election → Page → MarkPlaces → PageCode → PagePlan → PageReading
reading_on election page border code plan = record {
  code = code;
  border = border;
  scores = scores_of page border plan.bubbles;
  states = states_of election.thresholds (scores_of page border plan.bubbles);
  turned = false;
}

-- the reading of a page with a code, if it names a page
abbrev pub reading_of_code : Election → Page → MarkPlaces → Result PageCode CodeFault → Result PageReading PageFault
reading_of_code election page border (Err fault) = Err (Code fault)
reading_of_code election page border (Ok code) =
    named_plan election code >>= (λ plan. Ok (reading_on election page border code plan))

-- the reading of a page with a border
abbrev pub reading_of_border : Election → Page → Result MarkPlaces BorderFault → Result PageReading PageFault
reading_of_border election page (Err fault) = Err (Border fault)
reading_of_border election page (Ok border) = reading_of_code election page border (code_read page border)

-- the reading of a scan as it lies, or the first fault: its frame, its border, its code, another
-- election, no such card, no such page
unfoldable pub upright_reading_of : Election → Page → Result PageReading PageFault
upright_reading_of election page =
    if is_allowed election.paper page then reading_of_border election page (border_of election.paper page)
    else Err (FrameSize page.width page.height)

-- a reading of the turned page, told as one
abbrev pub told_turned : PageReading → PageReading
told_turned reading = record {
  code = reading.code;
  border = reading.border;
  scores = reading.scores;
  states = reading.states;
  turned = true;
}

-- the reading of a scan as it lies where that is no fault, else that of the turned scan where that is
-- none, else the fault of the scan as it lies
abbrev pub either_way : Result PageReading PageFault → Result PageReading PageFault → Result PageReading PageFault
either_way (Ok reading) turned = Ok reading
either_way (Err fault) (Ok reading) = Ok (told_turned reading)
either_way (Err fault) (Err other) = Err fault

-- the reading of a scan, which may be the page turned by 180 degrees; or its first fault as it lies
unfoldable pub reading_of : Election → Page → Result PageReading PageFault
reading_of election page =
    either_way (upright_reading_of election page) (upright_reading_of election (turned_page page))
