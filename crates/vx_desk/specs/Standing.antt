-- Where an option stands in its list, and its bubble in the picture.
use Rattle.std.specs.Prelude.{◌≡◌, ◌<◌, ◌≤◌, ℕ, ◌+◌, true, pos, length, slice_get, Some, Ok}
use Rattle.std.specs.List.{AllZip, range_with_len}
use Rattle.serde_json.specs.Data.{Data}
use Rattle.vx_plane.specs.Plane.{Page}
use Rattle.vx_election_model.specs.declared.contest.Contest.{Contest}
use Rattle.vx_election_model.specs.declared.election.Election.{Election}
use Rattle.vx_election_model.specs.Options as ballot
use Rattle.vx_election_model.specs.Valid.{IsValid}
use Rattle.vx_layout.specs.declared.bubbles.Bubble.{Bubble}
use Rattle.vx_layout.specs.Flow.{contest_at}
use Rattle.vx_scan_model.specs.declared.reading.PageReading.{PageReading}
use Rattle.vx_scan_model.specs.Reading.{reading_of}
use Rattle.vx_sheet.specs.Sheet.{has_bubble}
use Rattle.vx_desk.specs.declared.region.Region.{Region}
use Rattle.vx_desk.specs.Contests.{option_of, options_of}
use Rattle.vx_desk.specs.Shown.{Shown, bubble_at, score_at, shown_by, state_at}
use Rattle.vx_desk.specs.Regions.{before_one, behind, height_of, middle_of, past_one, region_round, width_of}

-- an option of a list is that of the contest's bubble for the option with a number
pub record IsOptionBy (contest : Contest) (number : ℕ) (shown : Shown) (region : Region) (option : Data) (place : ℕ)
    : Type 0 where
  pub bubble : ℕ
  pub there : bubble < length shown.bubbles
  pub of_contest : (bubble_at shown bubble).contest ≡ number
  pub of_option : (bubble_at shown bubble).option ≡ place
  pub is :
      option ≡ option_of contest shown region (bubble_at shown bubble) (score_at shown bubble) (state_at shown bubble)

-- a contest that stands on a page has all its options in its list, each at the place of its number on the ballot
abbrev pub StandsByNumber : Contest → ℕ → Shown → Region → Type 0
StandsByNumber contest number shown region =
    AllZip (IsOptionBy contest number shown region) (options_of contest number shown region)
    (range_with_len 0 (ballot.options_of contest))

abbrev pub OptionsStandByNumber : Type 0
OptionsStandByNumber =
    (election : Election) (image : Page) (reading : PageReading) (number : ℕ) (region : Region) → IsValid election
    → has_bubble number (shown_by election image reading).bubbles ≡ true
    → StandsByNumber (contest_at election.contests number) number (shown_by election image reading) region

-- a picture holds a bubble: its middle lies in the picture, in the column and row that its option says, which show the page's;
-- and the picture goes on on each side by the margin, or to the page's frame
pub record HoldsBubble (shown : Shown) (region : Region) (bubble : Bubble) : Type 0 where
  pub x : behind region.left (middle_of shown bubble).u < width_of region
  pub y : behind region.top (middle_of shown bubble).v < height_of region
  pub column : pos (behind region.left (middle_of shown bubble).u + region.left) ≡ (middle_of shown bubble).u
  pub row : pos (behind region.top (middle_of shown bubble).v + region.top) ≡ (middle_of shown bubble).v
  pub left : region.left ≤ before_one shown.page.width (middle_of shown bubble).u
  pub right : past_one shown.page.width (middle_of shown bubble).u ≤ region.right
  pub top : region.top ≤ before_one shown.page.height (middle_of shown bubble).v
  pub bottom : past_one shown.page.height (middle_of shown bubble).v ≤ region.bottom

-- so a contest's picture holds all its bubbles, on the page of each image that was read
abbrev pub PicturesHoldBubbles : Type 0
PicturesHoldBubbles =
    (election : Election) (image : Page) (reading : PageReading) (contest : Contest) (place : ℕ) (bubble : Bubble)
    → IsValid election → reading_of election image ≡ Ok reading
    → slice_get (shown_by election image reading).bubbles place ≡ Some bubble
    → HoldsBubble (shown_by election image reading)
    (region_round contest bubble.contest (shown_by election image reading)) bubble
