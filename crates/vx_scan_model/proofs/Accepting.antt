-- What the tests of places say.
use Rattle.std.proofs.Common.{◌≡◌, ℤ, true, ◌≤ℤ◌, arith}
use Rattle.std.specs.Prelude.{◌&&◌, int_le}
use Rattle.std.proofs.lemmas.Int.{ints}
use Rattle.std.proofs.lemmas.Bool.{and_parts, and_from, leb-true, le-leb}
use Rattle.vx_plane.specs.Plane.{Page}
use Rattle.vx_grid.specs.declared.places.Point.{Point}
use Rattle.vx_mark_model.specs.Region.{Region, IsIn, is_in}
use Rattle.vx_mark_model.specs.Mark.{framed, deficit_of, most_wrong, IsAccepted, is_accepted}

le_from : (a b : ℤ) → int_le a b ≡ true → a ≤ℤ b
le_from a b h = grind (arith, ints)

le_true : (a b : ℤ) → a ≤ℤ b → int_le a b ≡ true
le_true a b h = grind (arith, ints)

-- a place that passes the test of a region lies in it
pub in_from : (region : Region) (p : Point) → is_in region p ≡ true → IsIn region p
in_from region p h =
    let parts = and_parts (int_le region.left p.u && int_le p.u region.right) (int_le region.top p.v && int_le p.v region.bottom) h in
    let across = and_parts (int_le region.left p.u) (int_le p.u region.right) parts.0 in
    let down = and_parts (int_le region.top p.v) (int_le p.v region.bottom) parts.1 in
    record {
      left = le_from region.left p.u across.0;
      right = le_from p.u region.right across.1;
      top = le_from region.top p.v down.0;
      bottom = le_from p.v region.bottom down.1;
    }

-- and one that lies in it passes
pub in_true : (region : Region) (p : Point) → IsIn region p → is_in region p ≡ true
in_true region p h =
    and_from (int_le region.left p.u && int_le p.u region.right) (int_le region.top p.v && int_le p.v region.bottom)
    (and_from (int_le region.left p.u) (int_le p.u region.right) (le_true region.left p.u h.left) (le_true p.u region.right h.right))
    (and_from (int_le region.top p.v) (int_le p.v region.bottom) (le_true region.top p.v h.top) (le_true p.v region.bottom h.bottom))

-- an accepted place passes its test
pub accepted_true : (page : Page) (p : Point) → IsAccepted page p → is_accepted page p ≡ true
accepted_true page p h = and_from _ _ (in_true (framed page) p h.in_frame) (le-leb (deficit_of page p) most_wrong h.deficit)

-- and a place that passes it is accepted
pub accepted_from : (page : Page) (p : Point) → is_accepted page p ≡ true → IsAccepted page p
accepted_from page p h =
    let parts = and_parts _ _ h in
    record { in_frame = in_from (framed page) p parts.0; deficit = leb-true (deficit_of page p) most_wrong parts.1 }
