-- A slant moves a small rectangle nearly as a whole, and so does its way back.
use Rattle.std.proofs.Common.{◌≡◌, ℕ, zero, suc, ◌+◌, ◌≤◌, inl, inr, ℤ, pos, ◌+ℤ◌, ◌-ℤ◌, ◌≤ℤ◌, ◌<ℤ◌, ap, arith}
use Rattle.std.proofs.lemmas.Int.{ints, by_lt_z}
use Rattle.vx_grid.specs.Places.{IsWithin}
use Rattle.vx_plane.proofs.Pages.{rectangle-sides}
use Rattle.vx_geom.specs.Slants.{Slant, IsSlant, down_by, right_by, scan_row, scan_column, paper_row, paper_column}
use Rattle.vx_geom.specs.Laws.{IsOrNext, IsNearlyMoved}
use Rattle.vx_geom.specs.Back.{SlantsMoveBackNearlyAsAWhole}
use Rattle.vx_geom.proofs.Floors.{down-near, right-near}

-- the numbers along a run are one and the next
record AreTwo (f : ℤ → ℤ) (low : ℤ) (n : ℕ) : Type 0 where
  base : ℤ
  values : (v : ℤ) → low ≤ℤ v → v <ℤ (low +ℤ pos n) → IsOrNext base (f v)

-- no two numbers along a run are more than 1 apart
abbrev AreClose : (ℤ → ℤ) → ℤ → ℕ → Type 0
AreClose f low n = (v w : ℤ) → low ≤ℤ v → v <ℤ (low +ℤ pos n) → low ≤ℤ w → w <ℤ (low +ℤ pos n) → IsWithin 1 (f v -ℤ f w)

by_equal : (z w : ℤ) → z ≤ℤ w → w ≤ℤ (z +ℤ pos 1) → IsOrNext z w
by_equal z w low high = by_lt_z z w (λ later. inr (omega (arith, ints))) (λ here. inl (omega (arith, ints)))

-- a number or the next lies between them
between_of : (z w : ℤ) → IsOrNext z w → (z ≤ℤ w) × (w ≤ℤ (z +ℤ pos 1))
between_of z w (inl e) = (omega (arith, ints, e), omega (arith, ints, e))
between_of z w (inr e) = (omega (arith, ints, e), omega (arith, ints, e))

-- the last of a run, or one before it
last_or_before : {P : Type 0} (low v : ℤ) (n : ℕ) → low ≤ℤ v → v <ℤ (low +ℤ pos (suc n)) → (v <ℤ (low +ℤ pos n) → P) → (v ≡ low +ℤ pos n → P) → P
last_or_before low v n from to before last =
    by_lt_z v (low +ℤ pos n) before (λ past. last (omega (arith, ints)))

two_more : (f : ℤ → ℤ) (low : ℤ) (n : ℕ) → AreClose f low (suc n) → AreTwo f low n → AreTwo f low (suc n)
two_more f low n close two =
    let t : ℤ = f (low +ℤ pos n) in
    let c : ℤ = two.base in
    let new : (v : ℤ) → v ≡ low +ℤ pos n → f v ≡ t = λ v at. ap f at in
    let near : (v : ℤ) → low ≤ℤ v → v <ℤ (low +ℤ pos n) → IsWithin 1 (f v -ℤ t) =
    λ v from to. close v (low +ℤ pos n) from (omega (arith, ints)) (omega (arith, ints)) (omega (arith, ints)) in
    let old : (v : ℤ) → low ≤ℤ v → v <ℤ (low +ℤ pos n) → (c ≤ℤ f v) × (f v ≤ℤ (c +ℤ pos 1)) = λ v from to. between_of c (f v) (two.values v from to) in
    by_lt_z t c
    (λ less. record {
      base = t;
      values = λ v from to. last_or_before low v n from to
          (λ before. let o = old v from before in let k = near v from before in by_equal t (f v) (omega (arith, ints, o.0, less)) (omega (arith, ints, k.high)))
          (λ last. let e : f v ≡ t = new v last in inl e);
    })
    (λ more. by_lt_z (c +ℤ pos 1) t
    (λ past. record {
      base = t -ℤ pos 1;
      values = λ v from to. last_or_before low v n from to
          (λ before. let o = old v from before in let k = near v from before in by_equal (t -ℤ pos 1) (f v) (omega (arith, ints, k.low)) (omega (arith, ints, o.1, past)))
          (λ last. let e : f v ≡ t = new v last in by_equal (t -ℤ pos 1) (f v) (omega (arith, ints, e)) (omega (arith, ints, e)));
    })
    (λ within. record {
      base = c;
      values = λ v from to. last_or_before low v n from to
          (λ before. two.values v from before)
          (λ last. let e : f v ≡ t = new v last in by_equal c (f v) (omega (arith, ints, e, more)) (omega (arith, ints, e, within)));
    }))

two_values : (f : ℤ → ℤ) (low : ℤ) (n : ℕ) → AreClose f low n → AreTwo f low n
two_values f low zero close = record { base = pos 0; values = λ v from to. absurd (omega (arith, ints)) }
two_values f low (suc n) close =
    two_more f low n close (two_values f low n (λ v w a b c d. close v w a (omega (arith, ints)) c (omega (arith, ints))))

-- 65 columns of the paper are moved down by one number or the next
columns_down : (s : Slant) → IsSlant s → (x : ℤ) (m : ℕ) → m ≤ 65 → AreTwo (down_by s) x m
columns_down s slant x m few =
    two_values (down_by s) x m (λ v w a b c d. down-near s slant 1 v w (record { low = omega (arith, ints); high = omega (arith, ints) }))

-- 65 rows of the scan are moved right by one number or the next
rows_right : (s : Slant) → IsSlant s → (v : ℤ) (n : ℕ) → n ≤ 65 → AreTwo (right_by s) v n
rows_right s slant low n few =
    two_values (right_by s) low n (λ v w a b c d. right-near s slant 1 v w (record { low = omega (arith, ints); high = omega (arith, ints) }))

pub nearly-moved : (s : Slant) → IsSlant s → (x y : ℤ) (m n : ℕ) → m ≤ 64 → n ≤ 64 → IsNearlyMoved s x y m n
nearly-moved s slant x y m n narrow low =
    let downs : AreTwo (down_by s) x m = columns_down s slant x m (omega (arith, narrow)) in
    let rights : AreTwo (right_by s) (y +ℤ downs.base) (n + 1) = rows_right s slant (y +ℤ downs.base) (n + 1) (omega arith) in
    record {
      right = rights.base;
      down = downs.base;
      columns = λ w z inside.
          let sides = rectangle-sides x y m n w z inside in
          let d = between_of downs.base (down_by s w) (downs.values w sides.0 sides.1) in
          let r = between_of rights.base (right_by s (scan_row s w z))
          (rights.values (scan_row s w z) (omega (arith, ints, d.0, sides.2)) (omega (arith, ints, d.1, sides.3))) in
          by_equal (w +ℤ rights.base) (scan_column s w z) (omega (arith, ints, r.0)) (omega (arith, ints, r.1));
      rows = λ w z inside.
          let sides = rectangle-sides x y m n w z inside in
          let d = between_of downs.base (down_by s w) (downs.values w sides.0 sides.1) in
          by_equal (z +ℤ downs.base) (scan_row s w z) (omega (arith, ints, d.0)) (omega (arith, ints, d.1));
    }

pub nearly-moved-back : SlantsMoveBackNearlyAsAWhole
nearly-moved-back s slant u v m n narrow low =
    let rights : AreTwo (right_by s) v n = rows_right s slant v n (omega (arith, low)) in
    let left : ℤ = (u -ℤ rights.base) -ℤ pos 1 in
    let downs : AreTwo (down_by s) left (m + 1) = columns_down s slant left (m + 1) (omega (arith, narrow)) in
    record {
      right = (pos 0 -ℤ rights.base) -ℤ pos 1;
      down = (pos 0 -ℤ downs.base) -ℤ pos 1;
      columns = λ w z inside.
          let sides = rectangle-sides u v m n w z inside in
          let r = between_of rights.base (right_by s z) (rights.values z sides.2 sides.3) in
          by_equal (w +ℤ ((pos 0 -ℤ rights.base) -ℤ pos 1)) (paper_column s w z) (omega (arith, ints, r.1)) (omega (arith, ints, r.0));
      rows = λ w z inside.
          let sides = rectangle-sides u v m n w z inside in
          let r = between_of rights.base (right_by s z) (rights.values z sides.2 sides.3) in
          let d = between_of downs.base (down_by s (paper_column s w z))
          (downs.values (paper_column s w z) (omega (arith, ints, r.1, sides.0)) (omega (arith, ints, r.0, sides.1))) in
          by_equal (z +ℤ ((pos 0 -ℤ downs.base) -ℤ pos 1)) (paper_row s w z) (omega (arith, ints, d.1)) (omega (arith, ints, d.0));
    }
