-- Whether two images are those of a sheet that was kept.
use Rattle.std.specs.Prelude.{ℕ, ◌-◌, ◌*◌, ◌&&◌, ◌==◌, Bool, true, false, List, [], ◌∷◌, Result, Ok, Err}
use Rattle.std.specs.Bool.{beq}
use Rattle.vx_plane.specs.Plane.{Page}
use Rattle.vx_grid.specs.declared.state.State.{State}
use Rattle.vx_grid.specs.declared.state.State.TheVariants.{Marked, Marginal, Clear}
use Rattle.vx_election_model.specs.declared.election.Election.{Election}
use Rattle.vx_rules.specs.declared.marks.ContestMarks.{ContestMarks}
use Rattle.vx_rules.specs.declared.marks.SheetMarks.{SheetMarks}
use Rattle.vx_scan_model.specs.Reading.{reading_of}
use Rattle.vx_sheet.specs.Came.{sheet_read}
use Rattle.vx_sheet.specs.Sheet.{same_kind}
use Rattle.vx_sheet.specs.declared.came.Came.{Came}

-- two bubbles were read the same
abbrev pub same_state : State → State → Bool
same_state Marked Marked = true
same_state Marginal Marginal = true
same_state Clear Clear = true
same_state one other = false

-- two lists have the same elements in the same order
abbrev pub same_list : {X : Type 0} → (X → X → Bool) → List X → List X → Bool
same_list same [] [] = true
same_list same [] (y ∷ ys) = false
same_list same (x ∷ xs) [] = false
same_list same (x ∷ xs) (y ∷ ys) = same x y && same_list same xs ys

-- the same contest, read the same
abbrev pub same_marks : ContestMarks → ContestMarks → Bool
same_marks one other = (one.contest == other.contest) && same_list same_state one.states other.states

-- two leaves are the same pages of the same card, cast the same way
abbrev pub same_leaf : SheetMarks → SheetMarks → Bool
same_leaf one other =
    ((one.card == other.card) && (one.front == other.front)) && (same_kind one.kind other.kind && beq one.test other.test)

-- two sheets are the same in all
abbrev pub same_sheet : SheetMarks → SheetMarks → Bool
same_sheet one other = same_leaf one other && same_list same_marks one.contests other.contests

-- what two images came to is this sheet
abbrev pub is_that : SheetMarks → Result SheetMarks Came → Bool
is_that kept (Err came) = false
is_that kept (Ok sheet) = same_sheet sheet kept

-- the two images of the sheet with a number, which are numbered over all scans, are read as the sheet that was kept
abbrev pub are_kept : Election → SheetMarks → ℕ → Page → Page → Bool
are_kept election kept number first second =
    is_that kept (sheet_read election (2 * number - 1) (reading_of election first) (reading_of election second))
