-- Where marks, boxes and bubbles are found in a scan that shows them.
use Rattle.std.specs.Prelude.{◌≡◌, ◌≤◌, ◌<◌, ◌+◌, ◌-◌, ◌*◌, ℕ, ℤ, pos, ◌-ℤ◌, List, true}
use Rattle.vx_plane.specs.Plane.{Pixels, Page, rectangle, dark_at}
use Rattle.vx_grid.specs.declared.paper.Paper.{Paper}
use Rattle.vx_grid.specs.declared.places.Point.{Point}
use Rattle.vx_grid.specs.declared.sizes.HalfSides.{HalfSides}
use Rattle.vx_grid.specs.Paper.{last_row}
use Rattle.vx_grid.specs.Grid.{last_column, x_of, y_of}
use Rattle.vx_grid.specs.Marks.{marks as marks_of, timing_marks}
use Rattle.vx_grid.specs.Borders.{MarkPlaces}
use Rattle.vx_grid.specs.Places.{point_at}
use Rattle.vx_grid.specs.Regions.{frame_zone}
use Rattle.vx_grid.specs.Sizes.{bubble, window_of, zone_of, round}
use Rattle.vx_mark_model.specs.Mark.{IsInFrame, IsAccepted, deficit_of}
use Rattle.vx_mark_model.specs.Corner.{IsInCornerRegion}
use Rattle.vx_mark_model.specs.Best.{IsNear}
use Rattle.vx_mark_model.specs.Following.{leader_of, expected_from, prediction_of, IsFollowed, Closes}
use Rattle.vx_fit.specs.Fit.{place_of}
use Rattle.vx_geom.specs.Slants.{Slant, IsSlant, scan_column, scan_row, paper_column, paper_row}
use Rattle.vx_geom.specs.Seen.{seen}
use Rattle.vx_margin.specs.Marks.{IsBorderPoint, IsInMark, mark_image, AreMarks, image_of, LiesNear, Belongs}
use Rattle.vx_margin.specs.Deficits.{light_core, deficit_in}
use Rattle.vx_margin.specs.Shown.{ShowsMarks, ShowsBorder, IsInZone, IsInStartRegion, ShowsZone, count_at, count_round, dark_round}
use Rattle.vx_margin.specs.Chains.{IsChain, LieAtMarks}
use Rattle.vx_margin.specs.Flips.{flips_in, flips_on, frame_of}
use Rattle.vx_margin.specs.Turned.{IsTurned, slant_turned}

-- the timing marks of a page are those at its border points
abbrev pub TimingMarksAreMarks : Type 0
TimingMarksAreMarks = (paper : Paper) → AreMarks paper (timing_marks paper)

-- a place has a deficit of 0 without the flips, so in the scan one of at most the flips of its footprint; so it is
-- accepted where that lies in the frame
pub record HasNoDeficit (s : Slant) (scan : Page) (paper : Paper) (marks : Pixels) (q : Point) : Type 0 where
  pub shown : deficit_in (seen s marks) q ≡ 0
  pub flipped : IsInFrame scan q → deficit_of scan q ≤ count_at q (flips_in s scan marks (frame_zone paper))
  pub accepted : ShowsMarks s scan paper marks → IsInFrame scan q → IsAccepted scan q

-- so it is at the image of each mark's centre
abbrev pub ImagesHaveNoDeficit : Type 0
ImagesHaveNoDeficit =
    (s : Slant) (scan : Page) (paper : Paper) (marks : Pixels) (c r : ℕ) → IsSlant s → AreMarks paper marks
    → IsBorderPoint paper c r → HasNoDeficit s scan paper marks (image_of s paper c r)

-- an accepted place whose footprint is seen in the frame zone has a deficit of at most 40 without the flips
abbrev pub AcceptedHaveLowDeficits : Type 0
AcceptedHaveLowDeficits =
    (s : Slant) (scan : Page) (paper : Paper) (marks : Pixels) (p : Point) → ShowsMarks s scan paper marks
    → IsInZone s paper p → IsAccepted scan p → deficit_in (seen s marks) p ≤ 40

-- the core of a place shows a pixel of the mark at a grid point
pub record MeetsMark (s : Slant) (paper : Paper) (p : Point) (c r : ℕ) : Type 0 where
  pub point : IsBorderPoint paper c r
  pub u : ℤ
  pub v : ℤ
  pub in_core : rectangle (p.u -ℤ pos 17) (p.v -ℤ pos 5) 34 10 u v ≡ true
  pub in_mark : IsInMark paper c r (paper_column s u v) (paper_row s u v)

-- a core that meets two marks has at least 100 light pixels without the flips
abbrev pub CoresBetweenMarksAreLight : Type 0
CoresBetweenMarksAreLight =
    (s : Slant) (paper : Paper) (marks : Pixels) (p : Point) (c r d t : ℕ) → IsSlant s → AreMarks paper marks
    → MeetsMark s paper p c r → MeetsMark s paper p d t → ((c ≡ d) × (r ≡ t) → ⊥)
    → 100 ≤ light_core (seen s marks) p

-- 5 columns or 3 rows off a mark cost more than 40: a place at most 36 columns and 12 rows from the image of a mark's
-- centre that has a deficit of at most 40 without the flips lies within 4 columns and 2 rows of it
abbrev pub LowDeficitsLieNear : Type 0
LowDeficitsLieNear =
    (s : Slant) (paper : Paper) (marks : Pixels) (c r : ℕ) (p : Point) → IsSlant s → AreMarks paper marks
    → IsBorderPoint paper c r → LiesNear 36 12 p (image_of s paper c r) → deficit_in (seen s marks) p ≤ 40
    → LiesNear 4 2 p (image_of s paper c r)

-- an accepted place whose footprint is seen in the frame zone belongs to a timing mark: it lies within 4 columns
-- and 2 rows of the image of its centre
abbrev pub AcceptedBelong : Type 0
AcceptedBelong =
    (s : Slant) (scan : Page) (paper : Paper) (marks : Pixels) (p : Point) → IsSlant s → AreMarks paper marks
    → ShowsMarks s scan paper marks → IsInZone s paper p → IsAccepted scan p → Belongs s paper p

-- a place where a mark is expected lies within 5 columns and 3 rows of its image
abbrev pub IsExpectedNear : Point → Point → Type 0
IsExpectedNear p q = LiesNear 5 3 p q

-- so is the mark that another one leads to expected, from a place within 4 columns and 2 rows of that one's image
abbrev pub NextMarksAreExpected : Type 0
NextMarksAreExpected =
    (s : Slant) (paper : Paper) (k : ℕ) (p : Point) → IsSlant s → 0 < k
    → LiesNear 4 2 p (mark_image s paper (leader_of (last_row paper) k))
    → IsExpectedNear (expected_from (last_row paper) k p) (mark_image s paper k)

-- the border is found: the image of the first mark is where a corner may be, followed places lie at their marks,
-- the next mark is accepted where it is expected, and all of them close
pub record FindsBorder (s : Slant) (scan : Page) (paper : Paper) : Type 0 where
  pub first_accepted : IsAccepted scan (mark_image s paper 0)
  pub first_in_region : IsInCornerRegion (mark_image s paper 0)
  pub at_marks :
      (n : ℕ) (places : List Point) → n ≤ marks_of paper → IsFollowed scan (last_row paper) n places
      → LieAtMarks s paper n places
  pub next_accepted :
      (n : ℕ) (places : List Point) → 0 < n → n < marks_of paper → LieAtMarks s paper n places
      → IsAccepted scan (mark_image s paper n)
  pub next_near :
      (n : ℕ) (places : List Point) → 0 < n → n < marks_of paper → LieAtMarks s paper n places
      → IsNear (prediction_of (last_row paper) places n) (mark_image s paper n)
  pub closes :
      (places : List Point) → LieAtMarks s paper (marks_of paper) places → Closes (last_row paper) places

-- so it is in a scan that shows its marks
abbrev pub BordersAreFound : Type 0
BordersAreFound =
    (s : Slant) (scan : Page) (paper : Paper) (marks : Pixels) → ShowsBorder s scan paper marks
    → IsInStartRegion (mark_image s paper 0) → FindsBorder s scan paper

-- a chain of accepted places that begins at the first mark lies at the marks
abbrev pub ChainsLieAtMarks : Type 0
ChainsLieAtMarks =
    (s : Slant) (scan : Page) (paper : Paper) (marks : Pixels) (n : ℕ) (places : List Point) → IsSlant s
    → AreMarks paper marks → ShowsMarks s scan paper marks → n ≤ marks_of paper
    → IsChain scan (last_row paper) n places → LiesNear 4 2 (point_at places 0) (mark_image s paper 0)
    → LieAtMarks s paper n places

-- a chain of accepted places that begins where a corner may be begins at the first mark, and so lies at the marks:
-- from the mark right of it nothing is accepted at step 33, from the mark below it nothing at step 1
abbrev pub CornerChainsLieAtMarks : Type 0
CornerChainsLieAtMarks =
    (s : Slant) (scan : Page) (paper : Paper) (marks : Pixels) (n : ℕ) (places : List Point)
    → ShowsBorder s scan paper marks → IsInStartRegion (mark_image s paper 0) → 34 ≤ n → n ≤ marks_of paper
    → IsChain scan (last_row paper) n places → IsInCornerRegion (point_at places 0) → LieAtMarks s paper n places

-- a grid place between places at the marks lies within 6 columns and 4 rows of the image of its grid point
abbrev pub GridPlacesLieNear : Type 0
GridPlacesLieNear =
    (s : Slant) (border : MarkPlaces) (c r : ℕ) → IsSlant s
    → LieAtMarks s border.paper (marks_of border.paper) border.places → c ≤ last_column → r ≤ last_row border.paper
    → LiesNear 6 4 (place_of border c r) (image_of s border.paper c r)

-- the places of such a size round a place
abbrev pub round_place : HalfSides → Point → Pixels
round_place half p =
    rectangle (p.u -ℤ pos half.across) (p.v -ℤ pos half.down) (half.across + half.across) (half.down + half.down)

-- the window at a place holds the image of each place of the box round a grid point, and each of its places shows one
-- of the zone
pub record LiesBetween (s : Slant) (paper : Paper) (half : HalfSides) (c r : ℕ) (p : Point) : Type 0 where
  pub holds_box :
      (x y : ℤ) → round half (x_of c) (y_of paper r) x y ≡ true
      → round_place (window_of half) p (scan_column s x y) (scan_row s x y) ≡ true
  pub in_zone :
      (u v : ℤ) → round_place (window_of half) p u v ≡ true
      → round (zone_of half) (x_of c) (y_of paper r) (paper_column s u v) (paper_row s u v) ≡ true

-- a place where a window is put lies within 6 columns and 4 rows of the image of its grid point
abbrev pub IsPutNear : Point → Point → Type 0
IsPutNear p q = LiesNear 6 4 p q

-- there it lies so, for boxes no larger than a bubble's
abbrev pub WindowsLieBetween : Type 0
WindowsLieBetween =
    (s : Slant) (paper : Paper) (half : HalfSides) (c r : ℕ) (p : Point) → IsSlant s → half.across ≤ bubble.across
    → half.down ≤ bubble.down → IsPutNear p (image_of s paper c r) → LiesBetween s paper half c r p

-- the window at a place counts at most what the zone has and its flips, and at least what the box has less the
-- flips of the zone
pub record HoldsWindow (scan : Page) (paper : Paper) (set : Pixels) (half : HalfSides) (c r most : ℕ) (p : Point) : Type 0 where
  pub at_most : dark_round scan (window_of half) p ≤ count_round paper (zone_of half) c r set + most
  pub at_least : count_round paper half c r set ≤ dark_round scan (window_of half) p + most

-- so it does near the image of a grid point, for boxes no larger than a bubble's
abbrev pub WindowsHold : Type 0
WindowsHold =
    (s : Slant) (scan : Page) (paper : Paper) (set : Pixels) (half : HalfSides) (c r most : ℕ) (p : Point) → IsSlant s
    → half.across ≤ bubble.across → half.down ≤ bubble.down → ShowsZone s scan paper set (zone_of half) c r most
    → LiesNear 6 4 p (image_of s paper c r) → HoldsWindow scan paper set half c r most p

-- followed places are a chain
abbrev pub FollowedAreChains : Type 0
FollowedAreChains =
    (scan : Page) (last n : ℕ) (places : List Point) → IsFollowed scan last n places → IsChain scan last n places

-- where a scan turned by 180 degrees shows a page's marks, a chain of places that begins where a corner may be lies
-- at the marks of the turned page
abbrev pub TurnedChainsLieAtMarks : Type 0
TurnedChainsLieAtMarks =
    (s : Slant) (scan other : Page) (paper : Paper) (marks : Pixels) (n : ℕ) (places : List Point)
    → IsTurned scan other → ShowsBorder s other paper marks → IsInStartRegion (mark_image s paper 0)
    → scan.width ≤ 2000 → scan.height ≤ 52 * last_row paper + 350 → 34 ≤ n → n ≤ marks_of paper
    → IsChain scan (last_row paper) n places → IsInCornerRegion (point_at places 0)
    → LieAtMarks (slant_turned paper scan s) paper n places

-- and the window at a grid place between them counts at most what the page has in the zone at the other end of the
-- paper, and its flips
abbrev pub TurnedWindowsHold : Type 0
TurnedWindowsHold =
    (s : Slant) (scan other : Page) (border : MarkPlaces) (set : Pixels) (half : HalfSides) (c r most : ℕ)
    → IsTurned scan other → IsSlant s
    → ((u v : ℤ) → dark_at scan u v ≡ true → frame_of scan u v ≡ true)
    → LieAtMarks (slant_turned border.paper scan s) border.paper (marks_of border.paper) border.places
    → half.across ≤ bubble.across → half.down ≤ bubble.down → c ≤ last_column → r ≤ last_row border.paper
    → count_round border.paper (zone_of half) (last_column - c) (last_row border.paper - r) (flips_on s other set) ≤ most
    → dark_round scan (window_of half) (place_of border c r)
    ≤ count_round border.paper (zone_of half) (last_column - c) (last_row border.paper - r) set + most
