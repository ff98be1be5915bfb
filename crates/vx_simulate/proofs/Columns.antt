-- How a scan shows the columns of the paper in its margins.
use Rattle.std.proofs.Common.{◌≡◌, ◌≢◌, ℕ, ◌+◌, ◌-◌, ◌*◌, ◌%◌, ◌^◌, ◌<◌, ◌≤◌, ◌==◌, max, Bool, true, false, List, length, ℤ, pos, nat_abs, ◌+ℤ◌, ◌-ℤ◌, ◌*ℤ◌, ◌≤ℤ◌, ◌<ℤ◌, refl, ap, sym, ◌∙◌, inl, inr, arith, add-one, pow-suc}
use Rattle.std.specs.Int.{bit_at, from_bool}
use Rattle.std.proofs.lemmas.Int.{ints}
use Rattle.std.proofs.lemmas.Bool.{cases_lt, cases_eq}
use Rattle.std.proofs.lemmas.Nat.Bits.{bit_at_cat_low, bit_at_cat_high, bit_at_lowest}
use Rattle.vx_plane.specs.Count.{one_if}
use Rattle.vx_grid.specs.Places.{IsWithin}
use Rattle.vx_geom.specs.declared.shear.Shear.{Shear}
use Rattle.vx_grid.specs.declared.places.Point.{Point}
use Rattle.vx_geom.specs.Slants.{Slant, IsSlant, slant_of, whole_of, down_by, right_by, to_scan_of, to_paper_of}
use Rattle.vx_geom.proofs.Floors.{whole_of-is, down-near}
use Rattle.vx_geom.proofs.Products.{product-within}
use Rattle.vx_simulate.specs.Lie.{IsShort}
use Rattle.vx_simulate.specs.declared.strips.Strip.{Strip}
use Rattle.vx_simulate.specs.Rows.{shown, row_of, row_in, IsGreatest}

-- a slope along a way
rise-within : (n m : ℕ) (slope along : ℤ) → 64 * n ≤ 4096 * m → IsWithin 64 slope → IsWithin n along → IsWithin m (whole_of ((slope *ℤ along) +ℤ pos 0))
rise-within n m slope along few steep long =
    let parts : IsWithin (64 * n) (slope *ℤ along) = product-within 64 n slope along steep long in
    let floor = whole_of-is ((slope *ℤ along) +ℤ pos 0) in
    record {
      low = omega (arith, ints, few, parts.low, parts.high, floor.low, floor.high);
      high = omega (arith, ints, few, parts.low, parts.high, floor.low, floor.high);
    }

-- how far a short shear moves a column down, and a row to the right
pub short-down : (shear : Shear) (x : ℤ) → IsShort shear → IsWithin 1984 x → IsWithin 131 (down_by (slant_of shear) x)
unfolding down_by
short-down shear x short long =
    let rise : IsWithin 31 (whole_of ((shear.b *ℤ x) +ℤ pos 0)) = rise-within 1984 31 shear.b x (omega arith) short.b long in
    let far = short.down in
    record { low = omega (arith, ints, far.low, rise.low); high = omega (arith, ints, far.high, rise.high) }

pub short-right : (shear : Shear) (v : ℤ) → IsShort shear → IsWithin 2880 v → IsWithin 145 (right_by (slant_of shear) v)
unfolding right_by
short-right shear v short long =
    let rise : IsWithin 45 (whole_of ((shear.a *ℤ v) +ℤ pos 0)) = rise-within 2880 45 shear.a v (omega arith) short.a long in
    let far = short.right in
    record { low = omega (arith, ints, far.low, rise.low); high = omega (arith, ints, far.high, rise.high) }

-- the row that is shown in a column, as a number
pub short-shown : (shear : Shear) (x : ℕ) → IsShort shear → x < 2112 → (row : ℕ) × (pos row ≡ shown (slant_of shear) x) × (0 < row) × (row < 272)
short-shown shear x short few =
    let down = short-down shear (pos x -ℤ pos 160) short (record { low = omega (arith, ints); high = omega (arith, ints) }) in
    let low : pos 0 ≤ℤ shown (slant_of shear) x = omega (arith, ints, down.high) in
    let is : pos (nat_abs (shown (slant_of shear) x)) ≡ shown (slant_of shear) x = omega (arith, ints, low) in
    (nat_abs (shown (slant_of shear) x), is, omega (arith, ints, is, down.high), omega (arith, ints, is, down.low))

-- a short shear is slight
pub short-slight : (shear : Shear) → IsShort shear → IsSlant (slant_of shear)
short-slight shear short = record { a = short.a; b = short.b; p = omega arith; q = omega arith }

-- columns of eight show rows that are at most one apart
pub shown-near : (shear : Shear) (k i j : ℕ) → IsShort shear → i < 8 → j < 8
    → IsWithin 1 (shown (slant_of shear) (8 * k + i) -ℤ shown (slant_of shear) (8 * k + j))
shown-near shear k i j short few less =
    let x : ℤ = pos (8 * k + i) -ℤ pos 160 in
    let y : ℤ = pos (8 * k + j) -ℤ pos 160 in
    let close : IsWithin (1 * 64) (x -ℤ y) = record { low = omega (arith, ints); high = omega (arith, ints) } in
    let near = down-near (slant_of shear) (short-slight shear short) 1 x y close in
    record { low = omega (arith, ints, near.high); high = omega (arith, ints, near.low) }

-- the greatest row of the first n columns of a strip
pub record IsGreatestOf (s : Slant) (k n greatest : ℕ) : Type 0 where
  pub most : (i row : ℕ) → i < n → pos row ≡ shown s (8 * k + i) → row ≤ greatest
  pub one : (i : ℕ) × (i < 8) × (pos greatest ≡ shown s (8 * k + i))
  pub above : 0 < greatest
  pub below : greatest < 272

pub more-greatest : (s : Slant) (k n greatest row : ℕ) → n < 8 → IsGreatestOf s k n greatest → pos row ≡ shown s (8 * k + n) → 0 < row → row < 272
    → IsGreatestOf s k (n + 1) (max greatest row)
more-greatest s k n greatest row few is there above below = record {
  most = λ i other less at. elim (cases_lt i n) [
    | inl before ↦ let most : other ≤ greatest = is.most i other before at in omega arith
    | inr last ↦
        let place : i ≡ n = omega arith in
        let same : pos other ≡ pos row = at ∙ ap (λ m. shown s (8 * k + m)) place ∙ sym there in
        omega (arith, ints, same)
  ];
  one = elim (cases_lt greatest row) [
    | inl less ↦ let most : max greatest row ≡ row = omega arith in (n, few, ap pos most ∙ there)
    | inr more ↦ let most : max greatest row ≡ greatest = omega arith in (is.one.0, is.one.1, ap pos most ∙ is.one.2)
  ];
  above = omega (arith, above);
  below = omega (arith, below, is.below);
}

-- the bits of the first n columns that show a row
pub record HaveBits (s : Slant) (k row n bits : ℕ) : Type 0 where
  pub few : bits < 2 ^ n
  pub each : (i there : ℕ) → i < n → pos there ≡ shown s (8 * k + i) → bit_at bits (n - 1 - i) ≡ one_if (there == row)

one-bit : (b : Bool) → one_if b < 2
one-bit true = omega arith
one-bit false = omega arith

one-kept : (b : Bool) → one_if b % 2 ≡ one_if b
one-kept true = refl
one-kept false = refl

pow-more : (m : ℕ) → 2 ^ (m + 1) ≡ 2 ^ m * 2
pow-more m = rw (add-one, pow-suc) refl

-- one bit more
pub more-bits : (s : Slant) (k row n bits more here : ℕ) → HaveBits s k row n bits → pos here ≡ shown s (8 * k + n)
    → more ≡ 2 * bits + one_if (here == row) → HaveBits s k row (n + 1) more
more-bits s k row n bits more here have is all =
    let twice : 2 ^ (n + 1) ≡ 2 ^ n * 2 = pow-more n in
    let small : one_if (here == row) < 2 = one-bit (here == row) in
    let whole : more ≡ bits * 2 ^ 1 + one_if (here == row) = omega arith in
    record {
      few = omega (arith, have.few, twice, small, all);
      each = λ i there h at. elim (cases_lt i n) [
        | inl before ↦
            let place : n + 1 - 1 - i - 1 ≡ n - 1 - i = omega arith in
            ap (λ m. bit_at m (n + 1 - 1 - i)) whole
            ∙ bit_at_cat_high bits 1 (one_if (here == row)) (n + 1 - 1 - i) small (omega arith)
            ∙ ap (bit_at bits) place
            ∙ have.each i there before at
        | inr last ↦
            let place : i ≡ n = omega arith in
            let lowest : n + 1 - 1 - i ≡ 0 = omega arith in
            let same : pos there ≡ pos here = at ∙ ap (λ m. shown s (8 * k + m)) place ∙ sym is in
            let number : there ≡ here = cc in
            ap (bit_at more) lowest
            ∙ ap (λ m. bit_at m 0) whole
            ∙ bit_at_cat_low bits 1 (one_if (here == row)) 0 (omega arith)
            ∙ bit_at_lowest (one_if (here == row))
            ∙ one-kept (here == row)
            ∙ ap (λ (m : ℕ). one_if (m == row)) (sym number)
      ];
    }

-- a truth value as a number
pub one-from_bool : (b : Bool) → from_bool b ≡ one_if b
one-from_bool true = refl
one-from_bool false = refl

-- eight columns show the greatest row or the one before
pub strip-row : (shear : Shear) (k greatest i : ℕ) (strip : Strip) → IsShort shear → k < 264 → i < 8
    → IsGreatest (slant_of shear) k greatest → 0 < greatest → greatest < 272 → strip.row ≡ greatest - 1
    → ((j there : ℕ) → j < 8 → pos there ≡ shown (slant_of shear) (8 * k + j) → bit_at strip.bits (7 - j) ≡ one_if (there == greatest))
    → (pos (row_of strip i) ≡ shown (slant_of shear) (8 * k + i)) × (row_of strip i < 272)
strip-row shear k greatest i strip short within few is above below row bits =
    let at = short-shown shear (8 * k + i) short (omega arith) in
    let near = shown-near shear k is.one.0 i short is.one.1 few in
    let most : at.0 ≤ greatest = is.most i at.0 few at.1 in
    let least : greatest ≤ at.0 + 1 = omega (arith, ints, near.low, near.high, is.one.2, at.1) in
    let number : row_of strip i ≡ at.0 =
    elim (cases_eq at.0 greatest) [
      | inl same ↦
          let set : bit_at strip.bits (7 - i) ≡ 1 = bits i at.0 few at.1 ∙ ap one_if (eqb-same at.0 greatest same) in
          omega (arith, set, same, row, above)
      | inr other ↦
          let unset : bit_at strip.bits (7 - i) ≡ 0 = bits i at.0 few at.1 ∙ ap one_if (eqb-other at.0 greatest other) in
          omega (arith, unset, other, row, most, least)
    ] in
    (ap pos number ∙ at.1, omega (arith, number, at.3))
  where
    eqb-same : (m n : ℕ) → m ≡ n → (m == n) ≡ true
    eqb-same m n h = grind arith

    eqb-other : (m n : ℕ) → m ≢ n → (m == n) ≡ false
    eqb-other m n h = grind arith

-- strips of the first k bytes of columns
pub record AreFirstStrips (s : Slant) (strips : List Strip) (k : ℕ) : Type 0 where
  pub all : length strips ≡ k
  pub rows : (x : ℕ) → x < 8 * k → (pos (row_in strips x) ≡ shown s x) × (row_in strips x < 272)

abbrev no_strip : Strip
no_strip = record { row = 0; bits = 0 }

-- the row that is shown in a column, by what the code knows
pub shown-row : (shear : Shear) (x : ℕ) (u : ℤ) (r : Point) → IsShort shear → x < 2112 → r ≡ to_scan_of (slant_of shear) (record { u = u; v = pos 0 }) → u ≡ pos x -ℤ pos 160
    → (pos 136 -ℤ r.v ≡ shown (slant_of shear) x) × (pos 0 <ℤ (pos 136 -ℤ r.v)) × ((pos 136 -ℤ r.v) <ℤ pos 272)
shown-row shear x u r short few is across =
    let row : r.v ≡ pos 0 +ℤ down_by (slant_of shear) (pos x -ℤ pos 160) = ap (λ (p : Point). p.v) is ∙ ap (λ z. pos 0 +ℤ down_by (slant_of shear) z) across in
    let down = short-down shear (pos x -ℤ pos 160) short (record { low = omega (arith, ints); high = omega (arith, ints, few) }) in
    (omega (arith, ints, row), omega (arith, ints, row, down.high), omega (arith, ints, row, down.low))

-- and the column that is shown first
pub first-column : (shear : Shear) (v : ℕ) (w : ℤ) (r : Point) → IsShort shear → v < 2840 → r ≡ to_paper_of (slant_of shear) (record { u = pos 0; v = w }) → w ≡ pos v
    → (pos 160 +ℤ r.u ≡ pos 160 -ℤ right_by (slant_of shear) (pos v)) × (pos 0 <ℤ (pos 160 +ℤ r.u)) × ((pos 160 +ℤ r.u) <ℤ pos 312)
first-column shear v w r short few is down =
    let column : r.u ≡ pos 0 -ℤ right_by (slant_of shear) (pos v) = ap (λ (p : Point). p.u) is ∙ ap (λ z. pos 0 -ℤ right_by (slant_of shear) z) down in
    let right = short-right shear (pos v) short (record { low = omega (arith, ints); high = omega (arith, ints, few) }) in
    (omega (arith, ints, column), omega (arith, ints, column, right.high), omega (arith, ints, column, right.low))
