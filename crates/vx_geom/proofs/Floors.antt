-- How far columns and rows are moved, near each other.
use Rattle.std.proofs.Common.{◌≡◌, ℕ, ◌*◌, ℤ, pos, negsuc, ◌+ℤ◌, ◌-ℤ◌, ◌*ℤ◌, ◌≤ℤ◌, ◌<ℤ◌, arith}
use Rattle.std.proofs.lemmas.Int.{ints}
use Rattle.vx_grid.specs.Places.{IsWithin}
use Rattle.vx_geom.specs.Slants.{Slant, IsSlant, whole_of, down_by, right_by}
use Rattle.vx_geom.specs.Laws.{MovesNearby}
use Rattle.vx_geom.proofs.Products.{product-moved, product-within}

-- so many whole 4096ths, and less than one more
pub record IsFloor (z f : ℤ) : Type 0 where
  pub low : (pos 4096 *ℤ f) ≤ℤ z
  pub high : z <ℤ ((pos 4096 *ℤ f) +ℤ pos 4096)

pub whole_of-is : (z : ℤ) → IsFloor z (whole_of z)
unfolding whole_of
whole_of-is (pos n) = record { low = omega (arith, ints); high = omega (arith, ints) }
whole_of-is (negsuc n) = record { low = omega (arith, ints); high = omega (arith, ints) }

-- parts that differ by at most n * 4096 have wholes that differ by at most n
pub wholes-near : (n : ℕ) (y z : ℤ) → IsWithin (n * 4096) (y -ℤ z) → IsWithin n (whole_of y -ℤ whole_of z)
wholes-near n y z h =
    let f = whole_of-is y in
    let g = whole_of-is z in
    record {
      low = omega (arith, ints, f.low, f.high, g.low, g.high, h.low, h.high);
      high = omega (arith, ints, f.low, f.high, g.low, g.high, h.low, h.high);
    }

-- a slope along a way of n * 64 makes at most n * 4096 parts
parts-near : (n p : ℕ) (a v w : ℤ) → IsWithin 64 a → IsWithin (n * 64) (v -ℤ w) → IsWithin (n * 4096) (((a *ℤ v) +ℤ pos p) -ℤ ((a *ℤ w) +ℤ pos p))
parts-near n p a v w slope way =
    let within : IsWithin (64 * (n * 64)) (a *ℤ (v -ℤ w)) = product-within 64 (n * 64) a (v -ℤ w) slope way in
    let moved : a *ℤ v ≡ (a *ℤ w) +ℤ (a *ℤ (v -ℤ w)) = product-moved a v w in
    record { low = omega (arith, ints, moved, within.low); high = omega (arith, ints, moved, within.high) }

pub down-near : (s : Slant) → IsSlant s → (n : ℕ) (x y : ℤ) → IsWithin (n * 64) (x -ℤ y) → IsWithin n (down_by s x -ℤ down_by s y)
unfolding down_by
down-near s slant n x y way =
    let near : IsWithin n (whole_of ((s.b *ℤ x) +ℤ pos s.p) -ℤ whole_of ((s.b *ℤ y) +ℤ pos s.p)) =
    wholes-near n _ _ (parts-near n s.p s.b x y slant.b way) in
    record { low = omega (arith, ints, near.low); high = omega (arith, ints, near.high) }

pub right-near : (s : Slant) → IsSlant s → (n : ℕ) (v w : ℤ) → IsWithin (n * 64) (v -ℤ w) → IsWithin n (right_by s v -ℤ right_by s w)
unfolding right_by
right-near s slant n v w way =
    let near : IsWithin n (whole_of ((s.a *ℤ v) +ℤ pos s.q) -ℤ whole_of ((s.a *ℤ w) +ℤ pos s.q)) =
    wholes-near n _ _ (parts-near n s.q s.a v w slant.a way) in
    record { low = omega (arith, ints, near.low); high = omega (arith, ints, near.high) }

pub moves-nearby : (s : Slant) → IsSlant s → MovesNearby s
moves-nearby s slant = record { down = down-near s slant; right = right-near s slant }

-- the rise of a slope along the longest way
pub whole-within : (z : ℤ) → IsWithin (64 * 30000) z → IsWithin 500 (whole_of z)
whole-within z h =
    let f = whole_of-is z in
    record { low = omega (arith, ints, f.low, f.high, h.low, h.high); high = omega (arith, ints, f.low, f.high, h.low, h.high) }
