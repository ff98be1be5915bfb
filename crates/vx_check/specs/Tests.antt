-- The tests of a certificate in their order. Each passes or answers its fault, and the first that fails gives the
-- answer. This project's own order.
use Rattle.std.specs.Prelude.{ℕ, zero, suc, ◌+◌, ◌*◌, ◌^◌, ◌==◌, ◌&&◌, Bool, true, false, if◌then◌else◌, nat_le, nat_lt, List, length, slice_get, slice_index, slice_index_or, map, option_map, Option, Some, None, Result, Ok, Err, pos, ◌-ℤ◌}
use Rattle.std.specs.List.{range_with_len}
use Rattle.vx_base.specs.Results.{◌>>=◌}
use Rattle.vx_plane.specs.Plane.{Page}
use Rattle.vx_grid.specs.declared.paper.Paper.{Paper}
use Rattle.vx_grid.specs.declared.paper.Paper.TheVariants.{Letter, Legal}
use Rattle.vx_grid.specs.declared.places.Point.{Point}
use Rattle.vx_grid.specs.declared.state.State.{State}
use Rattle.vx_grid.specs.declared.state.State.TheVariants.{Marked, Marginal, Clear}
use Rattle.vx_grid.specs.declared.state.Thresholds.{Thresholds}
use Rattle.vx_grid.specs.Paper.{last_row}
use Rattle.vx_grid.specs.Marks.{marks, marks_to}
use Rattle.vx_grid.specs.Borders.{MarkPlaces}
use Rattle.vx_grid.specs.Places.{point_at}
use Rattle.vx_count.specs.Turned.{shown_page}
use Rattle.vx_mark_model.specs.Region.{Region, is_in, within}
use Rattle.vx_mark_model.specs.Mark.{deficit_of, is_accepted}
use Rattle.vx_mark_model.specs.Corner.{corner_region}
use Rattle.vx_mark_model.specs.Best.{near}
use Rattle.vx_mark_model.specs.Following.{prediction_of, end_of, right_end_of}
use Rattle.vx_code.specs.declared.code.PageCode.{PageCode}
use Rattle.vx_code.specs.Code.{boxes_of, version_of}
use Rattle.vx_score.specs.Score.{state_of}
use Rattle.vx_election_model.specs.declared.election.Election.{Election}
use Rattle.vx_layout.specs.declared.bubbles.Bubble.{Bubble}
use Rattle.vx_layout.specs.declared.pages.PagePlan.{PagePlan}
use Rattle.vx_scan_model.specs.declared.reading.PageReading.{PageReading}
use Rattle.vx_scan_model.specs.declared.fault.PageFault.{PageFault}
use Rattle.vx_scan_model.specs.Named.{named_plan}
use Rattle.vx_scan_model.specs.Reading.{is_allowed, box_count_of, bubble_score}
use Rattle.vx_refusals.specs.declared.checking.CheckFault.{CheckFault}
use Rattle.vx_refusals.specs.declared.checking.CheckFault.TheVariants.{MarkAt, StepAt, CornerAt, CodeAt, ScoreAt, StateAt, FrameSize, PaperAt}

-- what a test answers: nothing, or its fault
abbrev pub Tested : Type 0
Tested = Result (Unit {0}) CheckFault

-- a test that passes where something is so
abbrev pub passes : Bool → CheckFault → Tested
passes so fault = if so then Ok tt else Err fault

-- a test of so many numbers from one on, in order
unfoldable pub in_order : (ℕ → Tested) → ℕ → ℕ → Tested
in_order test first zero = Ok tt
in_order test first (suc count) = test first >>= (λ _. in_order test (suc first) count)

-- the frame is allowed
abbrev pub frame_tested : Paper → Page → Tested
frame_tested paper page = passes (is_allowed paper page) (FrameSize page.width page.height)

-- the said border is of this paper
abbrev pub paper_tested : Paper → Paper → Tested
paper_tested Letter Letter = Ok tt
paper_tested Legal Legal = Ok tt
paper_tested Letter Legal = Err (PaperAt Legal)
paper_tested Legal Letter = Err (PaperAt Letter)

-- a place is where a corner may be
abbrev pub corner_tested : Point → Tested
corner_tested p = passes (is_in corner_region p) (CornerAt p)

-- the places at which a deficit is counted, -9000 to 9000 both ways; no frame reaches past them
abbrev pub countable : Region
countable = within (record { across = 9000; down = 9000 }) (record { u = pos 0; v = pos 0 })

-- the deficit where all is light: the 34 by 10 pixels of a core
abbrev pub light_deficit : ℕ
light_deficit = 340

-- the place of mark k is accepted
abbrev pub mark_tested : Page → ℕ → Point → Tested
mark_tested page k p =
    if is_in countable p then passes (is_accepted page p) (MarkAt k p (deficit_of page p))
    else Err (MarkAt k p light_deficit)

-- a place is near where it is expected; the fault tells how far from it the place lies
abbrev pub near_tested : ℕ → Point → Point → Tested
near_tested k predicted p = passes (is_in (near predicted) p) (StepAt k (p.u -ℤ predicted.u) (p.v -ℤ predicted.v))

-- mark k is near where the said places let it be expected; nothing leads to mark 0
abbrev pub step_tested : ℕ → List Point → ℕ → Tested
step_tested last places zero = Ok tt
step_tested last places (suc k) = near_tested (suc k) (prediction_of last places (suc k)) (point_at places (suc k))

-- mark k: its place, then its step
abbrev pub place_tested : Page → ℕ → List Point → ℕ → Tested
place_tested page last places k = mark_tested page k (point_at places k) >>= (λ _. step_tested last places k)

-- the bottom row leads to the last mark of the right column
abbrev pub closing_tested : ℕ → List Point → Tested
closing_tested last places = near_tested (marks_to last) (end_of last places) (right_end_of last places)

-- the said border: its corner, its marks in order, and that it closes
unfoldable pub border_tested : Page → MarkPlaces → Tested
border_tested page border =
    corner_tested (point_at border.places 0)
    >>= (λ _. in_order (place_tested page (last_row border.paper) border.places) 0 (marks border.paper)
    >>= (λ _. closing_tested (last_row border.paper) border.places))

-- told in the place of a bit of the page code, 0 to 41, where no bit alone is at fault
abbrev pub no_bit : ℕ
no_bit = 42

-- whether the fields of a code are as large as their bits allow
abbrev pub is_in_range : PageCode → Bool
is_in_range code =
    (nat_lt code.version 8 && nat_lt code.card 1024) && (nat_lt code.page 64 && nat_lt code.tag (2 ^ 20))

-- whether a count is one of a box that is printed, or of one that isn't
abbrev pub is_shown : Bool → ℕ → Bool
is_shown true count = nat_le 400 count
is_shown false count = nat_le count 160

-- whether box n is shown as it is printed or not
abbrev pub shows_box : List ℕ → List Bool → ℕ → Bool
shows_box counts boxes n = is_shown (slice_index_or boxes n false) (slice_index counts n)

-- pair n shows the said bit: the one box is dark and the other blank
abbrev pub pair_tested : List ℕ → List Bool → ℕ → Tested
pair_tested counts boxes n = passes (shows_box counts boxes (2 * n) && shows_box counts boxes (2 * n + 1)) (CodeAt n)

-- the said code: its ranges, and its pairs in order
unfoldable pub code_tested : Page → MarkPlaces → PageCode → Tested
code_tested page border code =
    passes (is_in_range code) (CodeAt no_bit)
    >>= (λ _. in_order (pair_tested (map (box_count_of page border) (range_with_len 0 84)) (boxes_of code)) 0 42)

-- the plan that is found, whatever stood in the way of another
abbrev pub or_no_bit : Result PagePlan PageFault → Result PagePlan CheckFault
or_no_bit (Ok plan) = Ok plan
or_no_bit (Err fault) = Err (CodeAt no_bit)

-- the plan of the page that the said code names, with the version of the election's paper
unfoldable pub plan_tested : Election → PageCode → Result PagePlan CheckFault
plan_tested election code =
    if code.version == version_of election.paper then or_no_bit (named_plan election code) else Err (CodeAt no_bit)

-- a said score and a counted one are the same, or both lists have ended
abbrev pub score_tested : ℕ → Option ℕ → Option ℕ → Tested
score_tested j (Some said) (Some counted) = passes (said == counted) (ScoreAt j (Some said) (Some counted))
score_tested j (Some said) None = Err (ScoreAt j (Some said) None)
score_tested j None (Some counted) = Err (ScoreAt j None (Some counted))
score_tested j None None = Ok tt

-- the said scores are the counted ones: one for each bubble, and no more
unfoldable pub scores_tested : Page → MarkPlaces → List Bubble → List ℕ → Tested
scores_tested page border bubbles said =
    in_order (λ j. score_tested j (slice_get said j) (option_map (bubble_score page border) (slice_get bubbles j)))
    0 (length bubbles + 1)

-- whether two states are the same
abbrev pub is_same : State → State → Bool
is_same Marked Marked = true
is_same Marginal Marginal = true
is_same Clear Clear = true
is_same Marked Marginal = false
is_same Marked Clear = false
is_same Marginal Marked = false
is_same Marginal Clear = false
is_same Clear Marked = false
is_same Clear Marginal = false

-- a said state is that of the score, or both lists have ended
abbrev pub state_tested : Thresholds → ℕ → Option State → Option ℕ → Tested
state_tested thresholds j (Some said) (Some score) = passes (is_same said (state_of score thresholds)) (StateAt j)
state_tested thresholds j (Some said) None = Err (StateAt j)
state_tested thresholds j None (Some score) = Err (StateAt j)
state_tested thresholds j None None = Ok tt

-- the said states are those of the said scores, as many as there are bubbles
unfoldable pub states_tested : Thresholds → ℕ → List ℕ → List State → Tested
states_tested thresholds bubbles scores said =
    in_order (λ j. state_tested thresholds j (slice_get said j) (slice_get scores j)) 0 (bubbles + 1)

-- what is said of the bubbles of the page: scores, then states
abbrev pub bubbles_tested : Thresholds → Page → PageReading → PagePlan → Tested
bubbles_tested thresholds page reading plan =
    scores_tested page reading.border plan.bubbles reading.scores
    >>= (λ _. states_tested thresholds (length plan.bubbles) reading.scores reading.states)

-- all tests, of a page as it lies: the frame, the paper, the border, the code, the page that it names, its bubbles
abbrev pub upright_tested : Election → Page → PageReading → Tested
upright_tested election page reading =
    frame_tested election.paper page
    >>= (λ _. paper_tested election.paper reading.border.paper
    >>= (λ _. border_tested page reading.border
    >>= (λ _. code_tested page reading.border reading.code
    >>= (λ _. plan_tested election reading.code
    >>= (λ plan. bubbles_tested election.thresholds page reading plan)))))

-- and of a page, or of the turned page where the reading is one of that
abbrev pub tested : Election → Page → PageReading → Tested
tested election page reading = upright_tested election (shown_page reading.turned page) reading
