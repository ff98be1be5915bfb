-- The way there and back, and how rigid it is.
use Rattle.std.proofs.Common.{◌≡◌, ℕ, ◌+◌, ◌*◌, ◌≤◌, ℤ, ◌+ℤ◌, ◌-ℤ◌, ap, ◌∙◌, arith}
use Rattle.std.proofs.lemmas.Int.{ints}
use Rattle.vx_grid.specs.Places.{IsWithin}
use Rattle.vx_geom.specs.Slants.{Slant, IsSlant, down_by, right_by, scan_row, scan_column, paper_column, paper_row}
use Rattle.vx_geom.specs.Laws.{IsBijection, AreAlike, IsRigid}
use Rattle.vx_geom.proofs.Floors.{down-near, right-near}
use Rattle.vx_grid.proofs.MarkPlaces.{same-point}

pub paper_column-scan : (s : Slant) (x y : ℤ) → paper_column s (scan_column s x y) (scan_row s x y) ≡ x
paper_column-scan s x y = omega (arith, ints)

pub paper_row-scan : (s : Slant) (x y : ℤ) → paper_row s (scan_column s x y) (scan_row s x y) ≡ y
paper_row-scan s x y =
    ap (λ z. scan_row s x y -ℤ down_by s z) (paper_column-scan s x y) ∙ omega (arith, ints)

pub scan_row-paper : (s : Slant) (u v : ℤ) → scan_row s (paper_column s u v) (paper_row s u v) ≡ v
scan_row-paper s u v = omega (arith, ints)

pub scan_column-paper : (s : Slant) (u v : ℤ) → scan_column s (paper_column s u v) (paper_row s u v) ≡ u
scan_column-paper s u v =
    ap (λ z. paper_column s u v +ℤ right_by s z) (scan_row-paper s u v) ∙ omega (arith, ints)

pub is-bijection : (s : Slant) → IsBijection s
is-bijection s = record {
  from_paper = λ p. same-point _ _ (paper_column-scan s p.u p.v) (paper_row-scan s p.u p.v);
  from_scan = λ p. same-point _ _ (scan_column-paper s p.u p.v) (scan_row-paper s p.u p.v);
}

-- over n times 63 columns and 64 rows, n pixels more or less
paper-alike : (s : Slant) → IsSlant s → (n k : ℕ) (u v w z : ℤ) → IsWithin k (u -ℤ w) → IsWithin (n * 64) (v -ℤ z) → k + n ≤ n * 64
    → AreAlike n n (paper_column s u v) (paper_row s u v) (paper_column s w z) (paper_row s w z) u v w z
paper-alike s slant n k u v w z across down room =
    let right : IsWithin n (right_by s v -ℤ right_by s z) = right-near s slant n v z down in
    let way : IsWithin (n * 64) (paper_column s u v -ℤ paper_column s w z) =
    record { low = omega (arith, ints, across.low, right.high, room); high = omega (arith, ints, across.high, right.low, room) } in
    let below : IsWithin n (down_by s (paper_column s u v) -ℤ down_by s (paper_column s w z)) = down-near s slant n _ _ way in
    record {
      across = record { low = omega (arith, ints, right.high); high = omega (arith, ints, right.low) };
      down = record { low = omega (arith, ints, below.high); high = omega (arith, ints, below.low) };
    }

scan-alike : (s : Slant) → IsSlant s → (x y w z : ℤ) → IsWithin 64 (x -ℤ w) → IsWithin 63 (y -ℤ z)
    → AreAlike 1 1 (scan_column s x y) (scan_row s x y) (scan_column s w z) (scan_row s w z) x y w z
scan-alike s slant x y w z across down =
    let below : IsWithin 1 (down_by s x -ℤ down_by s w) = down-near s slant 1 x w across in
    let way : IsWithin 64 (scan_row s x y -ℤ scan_row s w z) =
    record { low = omega (arith, ints, down.low, below.low); high = omega (arith, ints, down.high, below.high) } in
    let right : IsWithin 1 (right_by s (scan_row s x y) -ℤ right_by s (scan_row s w z)) = right-near s slant 1 _ _ way in
    record {
      across = record { low = omega (arith, ints, right.low); high = omega (arith, ints, right.high) };
      down = record { low = omega (arith, ints, below.low); high = omega (arith, ints, below.high) };
    }

pub is-rigid : (s : Slant) → IsSlant s → IsRigid s
is-rigid s slant = record {
  paper = λ u v w z across down. paper-alike s slant 1 63 u v w z across down (omega arith);
  scan = scan-alike s slant;
  paper_twice = λ u v w z across down. paper-alike s slant 2 126 u v w z across down (omega arith);
}
