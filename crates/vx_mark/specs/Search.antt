-- What a search for a mark keeps: pixels of the frame, deficits counted up to a bound, the best so
-- far.
use Rattle.std.specs.Prelude.{◌≡◌, ◌⊎◌, ◌↔◌, ℕ, ◌+◌, ◌-◌, ◌≤◌, ◌<◌, ℤ, pos, ◌-ℤ◌, ◌≤ℤ◌, ◌<ℤ◌, Option, Some, None}
use Rattle.vx_plane.specs.Plane.{Page, dark_at}
use Rattle.vx_plane.specs.Count.{count_in, outside_of}
use Rattle.vx_grid.specs.declared.places.Point.{Point}
use Rattle.vx_mark.specs.declared.pixels.Pixel.{Pixel}
use Rattle.vx_mark.specs.declared.pixels.Span.{Span}
use Rattle.vx_mark.specs.declared.search.Found.{Found}
use Rattle.vx_mark_model.specs.Mark.{footprint, deficit_of, most_wrong, IsAccepted}
use Rattle.vx_mark_model.specs.Best.{near, IsNear, IsBetter}
use Rattle.vx_mark_model.specs.Corner.{IsInCornerRegion, ComesBefore}

-- the place in a column and a row
abbrev pub place_in : ℕ → ℕ → Point
place_in u v = record { u = pos u; v = pos v }

-- the place of a pixel
abbrev pub place_of : Pixel → Point
place_of pixel = place_in pixel.u pixel.v

-- the footprint of a pixel lies in the frame
pub record HasFootprint (page : Page) (u v : ℕ) : Type 0 where
  pub left : footprint.across ≤ u
  pub right : u + footprint.across ≤ page.width
  pub top : footprint.down ≤ v
  pub bottom : v + footprint.down ≤ page.height

-- the light pixels of a row of pixels where cores in column u have 34
abbrev pub row_light : Page → ℕ → ℕ → ℕ
row_light page u row = count_in (pos u -ℤ pos 17) (pos row) 34 1 (outside_of (dark_at page))

-- the light pixels of the first n rows of a core
abbrev pub front_light : Page → ℕ → ℕ → ℕ → ℕ
front_light page u v n = count_in (pos u -ℤ pos 17) (pos (v - 5)) 34 n (outside_of (dark_at page))

-- a number, or so much of it as shows that it reaches a bound
pub record IsUpTo (below n counted : ℕ) : Type 0 where
  pub exact : counted < below → counted ≡ n
  pub reached : below ≤ counted → below ≤ n

-- from this number on are those that are at least `low` and have `before` pixels before them
pub record IsFirst (low : ℤ) (before first : ℕ) : Type 0 where
  pub holds : (z : ℤ) → (pos first ≤ℤ z) ↔ ((low ≤ℤ z) × (pos before ≤ℤ z))

-- before this number are those that are at most `high` and have `after` pixels of `size` from them on
pub record IsPast (high : ℤ) (after size past : ℕ) : Type 0 where
  pub holds : (z : ℤ) → pos 0 ≤ℤ z → (z <ℤ pos past) ↔ ((z ≤ℤ high) × (z ≤ℤ (pos size -ℤ pos after)))

-- the columns near a predicted place at which a footprint lies between the frame's sides
pub record AreColumns (page : Page) (predicted : Point) (columns : Span) : Type 0 where
  pub first : IsFirst (near predicted).left footprint.across columns.first
  pub past : IsPast (near predicted).right footprint.across page.width columns.past

-- the rows near a predicted place at which a footprint lies between the frame's top and bottom
pub record AreRows (page : Page) (predicted : Point) (rows : Span) : Type 0 where
  pub first : IsFirst (near predicted).top footprint.down rows.first
  pub past : IsPast (near predicted).bottom footprint.down page.height rows.past

-- a row near a predicted place at which a footprint lies between the frame's top and bottom
pub record IsRow (page : Page) (predicted : Point) (v : ℕ) : Type 0 where
  pub near_top : (near predicted).top ≤ℤ pos v
  pub near_bottom : pos v ≤ℤ (near predicted).bottom
  pub top : footprint.down ≤ v
  pub bottom : v + footprint.down ≤ page.height

-- at most 24 columns at which a footprint lies between the frame's sides
pub record AreFew (width : ℕ) (columns : Span) : Type 0 where
  pub few : columns.past ≤ columns.first + 24
  pub left : columns.first < columns.past → footprint.across ≤ columns.first
  pub right : columns.first < columns.past → columns.past + footprint.across ≤ width + 1

-- each place of some columns in a row has a deficit of at least a bound
abbrev pub IsOut : Page → Span → ℕ → ℕ → Type 0
IsOut page columns v below =
    (u : ℕ) → columns.first ≤ u → u < columns.past → below ≤ deficit_of page (place_in u v)

-- a bound that no place has to reach to be the best near a predicted one: one above the most wrong
-- pixels of an accepted place, or above those of the predicted place where that is accepted
abbrev pub IsCap : Page → Point → ℕ → Type 0
IsCap page predicted cap = (cap ≡ most_wrong + 1) ⊎ (IsAccepted page predicted × (cap ≡ deficit_of page predicted + 1))

-- a place near a predicted one that a search row by row has seen before column u of row v
abbrev pub IsSeen : Point → ℕ → ℕ → Point → Type 0
IsSeen predicted u v q = IsNear predicted q × ((q.v <ℤ pos v) ⊎ ((q.v ≡ pos v) × (q.u <ℤ pos u)))

-- the best of the accepted places seen, with its deficit
pub record IsFound (page : Page) (predicted : Point) (u v : ℕ) (found : Found) : Type 0 where
  pub accepted : IsAccepted page (place_of found.pixel)
  pub seen : IsSeen predicted u v (place_of found.pixel)
  pub deficit : found.deficit ≡ deficit_of page (place_of found.pixel)
  pub best : (q : Point) → IsAccepted page q → IsSeen predicted u v q → IsBetter page q (place_of found.pixel) → ⊥

-- the best of the accepted places seen, or none whose deficit is below a cap
abbrev pub IsBestSeen : Page → Point → ℕ → ℕ → ℕ → Option Found → Type 0
IsBestSeen page predicted cap u v None =
    (q : Point) → IsAccepted page q → IsSeen predicted u v q → cap ≤ deficit_of page q
IsBestSeen page predicted cap u v (Some found) = IsFound page predicted u v found

-- what a place's deficit has to stay below to be better than the best before it
abbrev pub bound_of : ℕ → Option Found → ℕ
bound_of cap None = cap
bound_of cap (Some found) = found.deficit

-- the first of some columns whose place in a row is accepted
pub record IsFirstColumn (page : Page) (columns : Span) (v u : ℕ) : Type 0 where
  pub from : columns.first ≤ u
  pub before : u < columns.past
  pub accepted : IsAccepted page (place_in u v)
  pub first : (w : ℕ) → columns.first ≤ w → w < u → IsAccepted page (place_in w v) → ⊥

-- or none
abbrev pub IsFirstOf : Page → Span → ℕ → Option ℕ → Type 0
IsFirstOf page columns v None =
    (w : ℕ) → columns.first ≤ w → w < columns.past → IsAccepted page (place_in w v) → ⊥
IsFirstOf page columns v (Some u) = IsFirstColumn page columns v u

-- the corner of the rows above one
pub record IsCornerAbove (page : Page) (row : ℕ) (pixel : Pixel) : Type 0 where
  pub accepted : IsAccepted page (place_of pixel)
  pub in_region : IsInCornerRegion (place_of pixel)
  pub above : pixel.v < row
  pub first : (q : Point) → IsAccepted page q → IsInCornerRegion q → q.v <ℤ pos row → ComesBefore q (place_of pixel) → ⊥

-- or none
abbrev pub IsFirstAbove : Page → ℕ → Option Pixel → Type 0
IsFirstAbove page row None = (q : Point) → IsAccepted page q → IsInCornerRegion q → q.v <ℤ pos row → ⊥
IsFirstAbove page row (Some pixel) = IsCornerAbove page row pixel

-- a place of the region in this row that would come before the corner of the rows above
abbrev pub comes_first : Option Pixel → ℕ → ℕ → Type 0
comes_first None u v = Unit {0}
comes_first (Some pixel) u v = u + v < pixel.u + pixel.v
