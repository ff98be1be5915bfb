-- The best place for a timing mark near a predicted one.
use Rattle.std.specs.Prelude.{◌≡◌, ◌<◌, ◌⊎◌, ◌<ℤ◌}
use Rattle.vx_plane.specs.Plane.{Page}
use Rattle.vx_grid.specs.declared.places.Point.{Point}
use Rattle.vx_grid.specs.declared.sizes.HalfSides.{HalfSides}
use Rattle.vx_mark_model.specs.Region.{Region, IsIn, within}
use Rattle.vx_mark_model.specs.Mark.{deficit_of, IsAccepted}

-- how far a mark may lie from where it is expected: 10 columns and 6 rows
abbrev pub nearness : HalfSides
nearness = record { across = 10; down = 6 }

-- the places near a predicted one
abbrev pub near : Point → Region
near predicted = within nearness predicted

-- a place near a predicted one
abbrev pub IsNear : Point → Point → Type 0
IsNear predicted p = IsIn (near predicted) p

-- the order of places: the least deficit first, then the least row, then the least column
abbrev pub IsBetter : Page → Point → Point → Type 0
IsBetter page p q =
    (deficit_of page p < deficit_of page q)
    ⊎ ((deficit_of page p ≡ deficit_of page q) × (p.v <ℤ q.v))
    ⊎ ((deficit_of page p ≡ deficit_of page q) × (p.v ≡ q.v) × (p.u <ℤ q.u))

-- the best of the accepted places near a predicted one
pub record IsBest (page : Page) (predicted p : Point) : Type 0 where
  pub accepted : IsAccepted page p
  pub near : IsNear predicted p
  pub best : (q : Point) → IsAccepted page q → IsNear predicted q → IsBetter page q p → ⊥

-- there is one best place near another at most
abbrev pub BestPlaceIsOne : Type 0
BestPlaceIsOne =
    (page : Page) (predicted p q : Point) → IsBest page predicted p → IsBest page predicted q → p ≡ q
