-- The corner of a scan: where its first timing mark is.
use Rattle.std.specs.Prelude.{◌≡◌, ◌⊎◌, pos, ◌+ℤ◌, ◌<ℤ◌}
use Rattle.vx_plane.specs.Plane.{Page}
use Rattle.vx_grid.specs.declared.places.Point.{Point}
use Rattle.vx_mark_model.specs.Region.{Region, IsIn}
use Rattle.vx_mark_model.specs.Mark.{IsAccepted}

-- where a corner may be: columns 26 to 116, rows 14 to 104
abbrev pub corner_region : Region
corner_region = record { left = pos 26; right = pos 116; top = pos 14; bottom = pos 104 }

-- a place where a corner may be
abbrev pub IsInCornerRegion : Point → Type 0
IsInCornerRegion p = IsIn corner_region p

-- the order of corners: the least sum of column and row first, then the least row
abbrev pub ComesBefore : Point → Point → Type 0
ComesBefore p q = ((p.u +ℤ p.v) <ℤ (q.u +ℤ q.v)) ⊎ ((p.u +ℤ p.v ≡ q.u +ℤ q.v) × (p.v <ℤ q.v))

-- the corner: the first of the accepted places of the region
pub record IsCorner (page : Page) (p : Point) : Type 0 where
  pub accepted : IsAccepted page p
  pub in_region : IsInCornerRegion p
  pub first : (q : Point) → IsAccepted page q → IsInCornerRegion q → ComesBefore q p → ⊥

-- a scan has one corner at most
abbrev pub CornerIsOne : Type 0
CornerIsOne = (page : Page) (p q : Point) → IsCorner page p → IsCorner page q → p ≡ q
