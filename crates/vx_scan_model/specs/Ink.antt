-- A printed page that was marked: what may be on its paper. This project's own bounds.
use Rattle.std.specs.Prelude.{◌≡◌, ◌<◌, ◌≤◌, ◌+◌, ◌&&◌, ℕ, List, length, slice_index_or, Bool, true, false, not, ℤ}
use Rattle.vx_plane.specs.Plane.{Pixels}
use Rattle.vx_grid.specs.declared.paper.Paper.{Paper}
use Rattle.vx_grid.specs.declared.state.Thresholds.{Thresholds}
use Rattle.vx_grid.specs.Regions.{frame_zone}
use Rattle.vx_grid.specs.Sizes as sizes
use Rattle.vx_grid.specs.Sizes.{zone_of}
use Rattle.vx_layout.specs.declared.bubbles.Bubble.{Bubble}
use Rattle.vx_layout.specs.declared.pages.PagePlan.{PagePlan}
use Rattle.vx_election_model.specs.declared.election.Election.{Election}
use Rattle.vx_election_model.specs.Valid.{IsValid}
use Rattle.vx_layout.specs.Print.{bubble_pixels}
use Rattle.vx_layout.specs.Printed.{PrintedPage, IsPlanned, print_of_page}
use Rattle.vx_layout.specs.Zones.{Apart, bubble_zone_of, code_zones, reserved_zones}
use Rattle.vx_margin.specs.Shown.{count_round}

-- the pixels of the paper that aren't printed: what was added
abbrev pub added_to : Pixels → Pixels → Pixels
added_to print paper x y = paper x y && not (print x y)

-- bubble n of a page
abbrev pub bubble_at : PagePlan → ℕ → Bubble
bubble_at plan n = slice_index_or plan.bubbles n (record { contest = 0; option = 0; col = 0; row = 0 })

-- a marked bubble has at least 12 pixels more in its box than the definite threshold; a bubble that isn't marked
-- has at least 13 fewer in its zone than the marginal one
abbrev pub HasInk : Bool → Thresholds → Paper → Bubble → Pixels → Type 0
HasInk true thresholds paper bubble added =
    thresholds.def + 12 ≤ count_round paper sizes.bubble bubble.col bubble.row added
HasInk false thresholds paper bubble added =
    count_round paper (zone_of sizes.bubble) bubble.col bubble.row added + 13 ≤ thresholds.marg

-- the paper holds the print; nothing is added in the frame zone, in the zones of the page code and in the
-- reserved zones; and each bubble has the ink of its mark. Elsewhere anything may be added
pub record IsInked (thresholds : Thresholds) (plan : PagePlan) (print : Pixels) (marks : List Bool) (paper : Pixels) : Type 0 where
  pub printed : (x y : ℤ) → print x y ≡ true → paper x y ≡ true
  pub frame : Apart (added_to print paper) (frame_zone plan.paper)
  pub codes : Apart (added_to print paper) (code_zones plan.paper)
  pub reserved : Apart (added_to print paper) (reserved_zones plan.paper)
  pub all : length marks ≡ length plan.bubbles
  pub ink :
      (n : ℕ) → n < length plan.bubbles
      → HasInk (slice_index_or marks n false) thresholds plan.paper (bubble_at plan n) (added_to print paper)

-- in the zone of a bubble of a planned page nothing is printed but its outline
abbrev pub BubblesAreOutlined : Type 0
BubblesAreOutlined =
    (election : Election) (printed : PrintedPage) (plan : PagePlan) → IsValid election → IsPlanned election printed plan
    → (n : ℕ) → n < length plan.bubbles → (x y : ℤ) → bubble_zone_of plan.paper (bubble_at plan n) x y ≡ true
    → print_of_page election plan printed x y ≡ bubble_pixels plan.paper (bubble_at plan n) x y
