-- What is counted in a scan that shows a printed page with its marks. These numbers follow from the project's own bounds.
use Rattle.std.specs.Prelude.{◌≡◌, ◌<◌, ◌≤◌, ◌+◌, ℕ, List, length, slice_index_or, Bool, true, false}
use Rattle.vx_plane.specs.Plane.{Pixels, Page}
use Rattle.vx_grid.specs.Marks.{marks as marks_of}
use Rattle.vx_grid.specs.Borders.{MarkPlaces}
use Rattle.vx_grid.specs.declared.places.Point.{Point}
use Rattle.vx_code.specs.Code.{boxes_of}
use Rattle.vx_election_model.specs.declared.election.Election.{Election}
use Rattle.vx_election_model.specs.Valid.{IsValid}
use Rattle.vx_layout.specs.declared.pages.PagePlan.{PagePlan}
use Rattle.vx_layout.specs.Printed.{PrintedPage, IsPlanned, code_of, print_of_page}
use Rattle.vx_geom.specs.Slants.{Slant}
use Rattle.vx_margin.specs.Chains.{LieAtMarks}
use Rattle.vx_scan_model.specs.Reading.{box_count_of, bubble_score}
use Rattle.vx_scan_model.specs.Ink.{IsInked, bubble_at}
use Rattle.vx_scan_model.specs.Fits.{ShowsPaper}

-- a printed box of the page code counts at least 440 and a blank one at most 120; a marked bubble scores at least the
-- definite threshold, and any other at most the marginal one less 1
pub record CountsTell (election : Election) (scan : Page) (border : MarkPlaces) (plan : PagePlan) (boxes marks : List Bool) : Type 0 where
  pub printed :
      (n : ℕ) → n < 84 → slice_index_or boxes n false ≡ true → 440 ≤ box_count_of scan border n
  pub blank :
      (n : ℕ) → n < 84 → slice_index_or boxes n false ≡ false → box_count_of scan border n ≤ 120
  pub marked :
      (n : ℕ) → n < length plan.bubbles → slice_index_or marks n false ≡ true
      → election.thresholds.def ≤ bubble_score scan border (bubble_at plan n)
  pub clear :
      (n : ℕ) → n < length plan.bubbles → slice_index_or marks n false ≡ false
      → bubble_score scan border (bubble_at plan n) + 1 ≤ election.thresholds.marg

-- so it is in a scan that shows a planned page with its ink under a slant, at any places that lie at its marks
abbrev pub ShownPagesAreCounted : Type 0
ShownPagesAreCounted =
    (election : Election) (scan : Page) (printed : PrintedPage) (plan : PagePlan) (marks : List Bool) (s : Slant)
    (paper : Pixels) (places : List Point) → IsValid election → IsPlanned election printed plan
    → IsInked election.thresholds plan (print_of_page election plan printed) marks paper → ShowsPaper s scan plan paper
    → LieAtMarks s plan.paper (marks_of plan.paper) places
    → CountsTell election scan (record { paper = plan.paper; places = places }) plan (boxes_of (code_of election printed)) marks
