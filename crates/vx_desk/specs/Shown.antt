-- What an image shows: its page, upright, what it was read as, and the bubbles that stand on it.
use Rattle.std.specs.Prelude.{◌<◌, ◌≤◌, ℕ, ◌==◌, if◌then◌else◌, All, List, [], find, slice_index_or, Option, None, Some, Result, Ok, Err}
use Rattle.vx_plane.specs.Plane.{Page}
use Rattle.vx_count.specs.Turned.{shown_page}
use Rattle.vx_grid.specs.declared.state.State.{State}
use Rattle.vx_grid.specs.declared.state.State.TheVariants.{Clear}
use Rattle.vx_election_model.specs.declared.election.Election.{Election}
use Rattle.vx_layout.specs.declared.bubbles.Bubble.{Bubble}
use Rattle.vx_layout.specs.declared.pages.PagePlan.{PagePlan}
use Rattle.vx_scan_model.specs.declared.fault.PageFault.{PageFault}
use Rattle.vx_scan_model.specs.declared.reading.PageReading.{PageReading}
use Rattle.vx_scan_model.specs.Named.{named_plan}
use Rattle.vx_sheet.specs.Sheet.{has_bubble}

-- an image that was read: the page that it shows, upright, what it was read as, and the page's bubbles in the plan's order
pub record Shown : Type 0 where
  pub page : Page
  pub reading : PageReading
  pub bubbles : List Bubble

-- the bubbles of a planned page, and none where there is no such page
abbrev pub bubbles_of : Result PagePlan PageFault → List Bubble
bubbles_of (Ok plan) = plan.bubbles
bubbles_of (Err fault) = []

-- the bubbles of the page that a reading's code names
abbrev pub bubbles_named : Election → PageReading → List Bubble
bubbles_named election reading = bubbles_of (named_plan election reading.code)

-- what an image shows that was read so
abbrev pub shown_by : Election → Page → PageReading → Shown
shown_by election image reading = record {
  page = shown_page reading.turned image;
  reading = reading;
  bubbles = bubbles_named election reading;
}

-- the image on which a contest stands: the first, if a bubble of the contest is on it, else the second
abbrev pub image_with : ℕ → Shown → Shown → Shown
image_with contest first second = if has_bubble contest first.bubbles then first else second

-- a bubble that stands for nothing
abbrev pub no_bubble : Bubble
no_bubble = record { contest = 0; option = 0; col = 0; row = 0 }

-- the bubble with a place in the plan's order, its score and what it was read as
abbrev pub bubble_at : Shown → ℕ → Bubble
bubble_at shown k = slice_index_or shown.bubbles k no_bubble

abbrev pub score_at : Shown → ℕ → ℕ
score_at shown k = slice_index_or shown.reading.scores k 0

abbrev pub state_at : Shown → ℕ → State
state_at shown k = slice_index_or shown.reading.states k Clear

-- a bubble that is there, or none
abbrev pub bubble_there : Option Bubble → Bubble
bubble_there None = no_bubble
bubble_there (Some bubble) = bubble

-- the bubble of a contest's first option: the first of the contest's in the plan's order
abbrev pub first_bubble : ℕ → List Bubble → Bubble
first_bubble contest bubbles = bubble_there (find (λ (bubble : Bubble). bubble.contest == contest) bubbles)

-- a bubble has eight grid columns to its right, and stands in a row of some paper
pub record HasItsPlace (bubble : Bubble) : Type 0 where
  pub column : bubble.col ≤ 25
  pub row : bubble.row ≤ 100

-- an image that can be shown has 1 to 4,096 pixels each way, and bubbles with places
pub record CanBeShown (image : Page) (bubbles : List Bubble) : Type 0 where
  pub some_columns : 0 < image.width
  pub few_columns : image.width ≤ 4096
  pub some_rows : 0 < image.height
  pub few_rows : image.height ≤ 4096
  pub places : All HasItsPlace bubbles
