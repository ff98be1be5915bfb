-- A place by its column and its row.
use Rattle.std.proofs.Common.{◌≡◌, ◌≤◌, ◌<◌, ℕ, ℤ, ap, ap₂, subst, refl, pos, negsuc, ◌≤ℤ◌, IsTrue, true, arith}
use Rattle.std.specs.Int.Signed.{le_z}
use Rattle.std.proofs.lemmas.Int.{ints}
use Rattle.vx_plane.specs.Plane.{Page}
use Rattle.vx_grid.specs.declared.places.Point.{Point}
use Rattle.vx_mark_model.specs.Mark.{deficit_of, IsInFrame, IsAccepted}
use Rattle.vx_mark.specs.Search.{place_in, HasFootprint, IsUpTo}

-- the same place, accepted
pub accepted_there : (page : Page) (p q : Point) → p ≡ q → IsAccepted page p → IsAccepted page q
accepted_there page p q e h = subst (IsAccepted page) e h

le_z_yes : (a b : ℤ) → le_z a b ≡ true → a ≤ℤ b
le_z_yes a b h = grind (arith, ints)

le_z_true : (a b : ℤ) → a ≤ℤ b → le_z a b ≡ true
le_z_true a b h = grind (arith, ints)

-- what the tests of a place in a line tell
pub room-tests : (first at last : ℤ) → le_z first at ≡ true → (IsTrue (le_z at last) → (first ≤ℤ at) × (at ≤ℤ last)) × ((first ≤ℤ at) × (at ≤ℤ last) → IsTrue (le_z at last))
room-tests first at last h = (λ t. (le_z_yes first at h, le_z_yes at last t), λ t. le_z_true at last t.1)

-- a place in the frame whose deficit up to 21 is at most 20
pub accepted-up_to : (page : Page) (p : Point) (u v wrong : ℕ) → p ≡ place_in u v → IsInFrame page p → IsUpTo 21 (deficit_of page (place_in u v)) wrong → wrong ≤ 20 → IsAccepted page p × (wrong ≡ deficit_of page p)
accepted-up_to page p u v wrong at inside counted few =
    let e : wrong ≡ deficit_of page (place_in u v) = counted.exact (omega arith) in
    let same : deficit_of page p ≡ deficit_of page (place_in u v) = ap (deficit_of page) at in
    (record { in_frame = inside; deficit = omega arith }, omega arith)

-- the frame as naturals tell it, and as places do
pub footprint-in_frame : (page : Page) (u v : ℕ) → HasFootprint page u v → IsInFrame page (place_in u v)
footprint-in_frame page u v h = record { left = omega (arith, ints); right = omega (arith, ints); top = omega (arith, ints); bottom = omega (arith, ints) }

-- a place with room in the frame is accepted where its deficit up to a bound of at most 21 is below it
pub accepted-below : (page : Page) (u v below wrong : ℕ) → HasFootprint page u v → IsUpTo below (deficit_of page (place_in u v)) wrong → below ≤ 21 → wrong < below → IsAccepted page (place_in u v)
accepted-below page u v below wrong here counted most less =
    let e : wrong ≡ deficit_of page (place_in u v) = counted.exact less in
    record { in_frame = footprint-in_frame page u v here; deficit = omega arith }

-- and is none where it reaches the bound
pub refused-at : (page : Page) (u v wrong : ℕ) → IsUpTo 21 (deficit_of page (place_in u v)) wrong → 20 < wrong → IsAccepted page (place_in u v) → ⊥
refused-at page u v wrong counted more good = omega (arith, counted.reached (omega arith), good.deficit)
