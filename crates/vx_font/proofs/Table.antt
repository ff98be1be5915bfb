-- A rule of the table of glyphs, by one computed test: each glyph has five columns, and no column has
-- a dot below the seventh row. It follows for what is drawn for any character.
use Rattle.std.proofs.Common.{◌≡◌, ℕ, ◌<◌, ◌≤◌, ◌-◌, ◌^◌, ◌==◌, ◌&&◌, List, [], inl, inr, Bool, true, false, length, slice_index, slice_index_or, nat_lt, if◌then◌else◌, All, IsTrue, refl, arith}
use Rattle.std.specs.List.{list_all}
use Rattle.std.specs.Int.{bit_at}
use Rattle.std.proofs.lemmas.List.Sums.{AllPass-from_list_all}
use Rattle.std.proofs.lemmas.Bool.Decides.{nat_tests}
use Rattle.std.proofs.lemmas.Bool.{cases_lt}
use Rattle.std.proofs.lemmas.List.{get_or_past}
use Rattle.std.proofs.lemmas.Nat.Bits.{bit_at-zero}
use Rattle.std.proofs.Math.Nat.{div-eq_of_lt}
use Rattle.std.proofs.Math.Pow.{pow_mono}
use Rattle.vx_font.specs.declared.glyphs.TheConstants.{GLYPHS}
use Rattle.vx_font.specs.Font.{dots_of, dot_of}

-- whether a column has seven rows
abbrev is_column : ℕ → Bool
is_column column = nat_lt column 128

-- whether columns are those of a glyph: five, of seven rows each
abbrev is_glyph : List ℕ → Bool
is_glyph columns = (length columns == 5) && list_all is_column columns

-- the computed test
table_is_glyphs : list_all is_glyph GLYPHS ≡ true
table_is_glyphs = refl

glyph_passes : (n : ℕ) → n < 95 → is_glyph (slice_index_or GLYPHS n []) ≡ true
glyph_passes n h = AllPass-from_list_all is_glyph GLYPHS table_is_glyphs n [] h

-- a test that both choices pass, each where it is taken
passes_choice : (p : List ℕ → Bool) (b : Bool) (x y : List ℕ) → (b ≡ true → p x ≡ true) → (b ≡ false → p y ≡ true) → p (if b then x else y) ≡ true
passes_choice p true x y first second = first refl
passes_choice p false x y first second = second refl

-- five columns of seven rows are drawn for every character
dots_are_glyph : (c : ℕ) → is_glyph (dots_of c) ≡ true
unfolding dots_of
dots_are_glyph c =
    passes_choice is_glyph (nat_lt c 32) _ _ (λ _. refl)
    (λ above. passes_choice is_glyph (nat_lt c 127) _ _
    (λ below. glyph_passes (c - 32) (grind (arith, nat_tests)))
    (λ _. passes_choice is_glyph (c == 127) _ _ (λ _. refl) (λ _. refl)))

both_true : (a b : Bool) → (a && b) ≡ true → (a ≡ true) × (b ≡ true)
both_true a b t = grind arith

below_from_is_column : (column : ℕ) → is_column column ≡ true → column < 128
below_from_is_column column t = grind (arith, nat_tests)

rows_from_is_glyph : (columns : List ℕ) → is_glyph columns ≡ true → All (λ column. column < 128) columns
rows_from_is_glyph columns t =
    λ k d in_glyph.
    below_from_is_column _
    (AllPass-from_list_all is_column columns (both_true (length columns == 5) (list_all is_column columns) t).1 k d in_glyph)

-- each column of a glyph of the table has seven rows
pub glyph_rows : (n : ℕ) (columns : List ℕ) → n < 95 → columns ≡ slice_index_or GLYPHS n [] → All (λ column. column < 128) columns
glyph_rows n columns h e = rw e (rows_from_is_glyph (slice_index_or GLYPHS n []) (glyph_passes n h))

-- each column of what is drawn has seven rows
pub rows-dots_of : (c : ℕ) → All (λ column. column < 128) (dots_of c)
rows-dots_of c = rows_from_is_glyph (dots_of c) (dots_are_glyph c)

length-dots_of : (c : ℕ) → length (dots_of c) ≡ 5
length-dots_of c =
    let t = dots_are_glyph c in let five : (length (dots_of c) == 5) ≡ true = (both_true (length (dots_of c) == 5) (list_all is_column (dots_of c)) t).0 in grind (arith, nat_tests)

bit_at-below : (n i : ℕ) → n < 2 ^ i → bit_at n i ≡ 0
bit_at-below n i h = rw (div-eq_of_lt h) refl

no_bit-to-right : (columns : List ℕ) (column row : ℕ) → length columns ≤ column → bit_at (slice_index columns column) row ≡ 0
no_bit-to-right columns column row h = rw (get_or_past columns column 0 h) (bit_at-zero row)

no_bit-under : (columns : List ℕ) (column row : ℕ) → All (λ x. x < 128) columns → 7 ≤ row → bit_at (slice_index columns column) row ≡ 0
no_bit-under columns column row rows h =
    let low : 128 ≤ 2 ^ row = pow_mono {i = 7} {j = row} h in
    elim (cases_lt column (length columns)) [
      | inl here ↦ bit_at-below (slice_index columns column) row (let x : slice_index columns column < 128 = rows column 0 here in omega arith)
      | inr past ↦ no_bit-to-right columns column row past
    ]

no_dot : (bit : ℕ) → bit ≡ 0 → IsTrue (bit == 1) → ⊥
no_dot bit e dark = grind (arith, nat_tests)

-- a dot stands in one of the five columns and the seven rows
pub dot_of-inside : (c column row : ℕ) → IsTrue (dot_of c column row) → (column < 5) × (row < 7)
unfolding dot_of
dot_of-inside c column row dark = (
  elim (cases_lt column 5) [
    | inl here ↦ here
    | inr past ↦ absurd (no_dot _ (no_bit-to-right (dots_of c) column row (let five = length-dots_of c in omega arith)) dark)
  ],
  elim (cases_lt row 7) [
    | inl here ↦ here
    | inr past ↦ absurd (no_dot _ (no_bit-under (dots_of c) column row (rows-dots_of c) past) dark)
  ],
)

-- what `dots` promises beyond its value
pub ruleset drawn = (rows-dots_of, dot_of-inside)
