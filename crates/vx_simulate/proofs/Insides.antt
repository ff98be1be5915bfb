-- What lies inside the outline of a bubble, row by row, and ink there.
use Rattle.std.proofs.Common.{◌≡◌, ℕ, zero, suc, ◌+◌, ◌-◌, ◌<◌, ◌≤◌, min, nat_lt, nat_le, Bool, true, false, ◌||◌, ◌&&◌, ℤ, pos, negsuc, nat_abs, ◌+ℤ◌, ◌-ℤ◌, refl, ap, ap₂, sym, ◌∙◌, inl, inr, arith, add-one}
use Rattle.std.proofs.lemmas.Int.{ints}
use Rattle.std.specs.List.{list_all}
use Rattle.std.proofs.lemmas.Bool.{cases_lt, and_parts}
use Rattle.std.proofs.lemmas.List.Folds.{list_all_at}
use Rattle.vx_base.proofs.Booleans.{and-both, same-bool}
use Rattle.vx_base.proofs.Numbers.{below-yes, below-from_yes}
use Rattle.vx_plane.specs.Plane.{Pixels, Page, rows_of, page_of, dark_at, rectangle, in_any, placed}
use Rattle.vx_plane.specs.Count.{one_if, sum_from, count_in}
use Rattle.vx_plane.proofs.Sums.{sum_from-more}
use Rattle.vx_plane.proofs.Counts.{count_in-row_more, count_in-by_rows}
use Rattle.vx_plane.proofs.Pages.{dark_at-inside, rectangle-inside, rectangle-sides, in_any-some, in_any-one, in_any-more}
use Rattle.vx_layout.specs.Print.{inner_ellipse}
use Rattle.vx_simulate.specs.declared.painting.Stretch.{Stretch}
use Rattle.vx_simulate.specs.declared.ink.Ink.TheVariants.{FirstPixels, WholeBox}
use Rattle.vx_simulate.specs.declared.painting.TheConstants.{INSIDE}
use Rattle.vx_simulate.specs.Inside.{stretch_of, stretches}
use Rattle.vx_simulate.specs.Ink.{before, ink_pixels}

-- the table and the ellipse are the same, place by place
same_pages : page_of 40 26 stretches ≡ page_of 40 26 (λ a b. inner_ellipse (a -ℤ pos 20) (b -ℤ pos 13))
unfolding rows_of
same_pages = refl

-- a place of the box lies inside the outline where the table has it
inner-is : (column row : ℕ) → column < 40 → row < 26
    → inner_ellipse (pos column -ℤ pos 20) (pos row -ℤ pos 13) ≡ nat_le (stretch_of row).first column && nat_lt column ((stretch_of row).first + (stretch_of row).width)
inner-is column row l h =
    sym (sym (dark_at-inside 40 26 column row stretches l h)
    ∙ (ap (λ (page : Page). dark_at page (pos column) (pos row)) same_pages
    ∙ dark_at-inside 40 26 column row (λ a b. inner_ellipse (a -ℤ pos 20) (b -ℤ pos 13)) l h))

-- the table lies in the box
all-fit : list_all (λ (s : Stretch). nat_le (s.first + s.width) 40) INSIDE ≡ true
all-fit = refl

pub stretch-fits : (row : ℕ) → row < 26 → (stretch_of row).first + (stretch_of row).width ≤ 40
stretch-fits row h = fits (nat_le ((stretch_of row).first + (stretch_of row).width) 40) refl
  where
    fits : (b : Bool) → nat_le ((stretch_of row).first + (stretch_of row).width) 40 ≡ b → (stretch_of row).first + (stretch_of row).width ≤ 40
    fits true test = grind arith
    fits false test =
        let none : list_all (λ (s : Stretch). nat_le (s.first + s.width) 40) INSIDE ≡ false =
        list_all_at (λ (s : Stretch). nat_le (s.first + s.width) 40) INSIDE row (record { first = 0; width = 0 }) h test in
        let both : true ≡ false = sym all-fit ∙ none in
        absurd (cc)

-- how many of the first m columns a stretch has
abbrev part_of : ℕ → ℕ → ℕ → ℕ
part_of first width m = min (m - first) width

one-more : (first width m : ℕ) → part_of first width m + one_if (nat_le first m && nat_lt m (first + width)) ≡ part_of first width (m + 1)
one-more first width m =
    elim (cases_lt m first) [
      | inl early ↦ let none : (nat_le first m && nat_lt m (first + width)) ≡ false = grind arith in omega (arith, early, ap one_if none)
      | inr from ↦ elim (cases_lt m (first + width)) [
        | inl inside ↦ let one : (nat_le first m && nat_lt m (first + width)) ≡ true = grind arith in omega (arith, from, inside, ap one_if one)
        | inr late ↦ let none : (nat_le first m && nat_lt m (first + width)) ≡ false = grind arith in omega (arith, from, late, ap one_if none)
      ]
    ]

-- so many lie inside the outline among the first m columns of a row
row-many : (row m : ℕ) → row < 26 → m ≤ 40
    → sum_from (negsuc 19) m (λ u. one_if (inner_ellipse u (pos row -ℤ pos 13))) ≡ part_of (stretch_of row).first (stretch_of row).width m
row-many row zero h l = omega arith
row-many row (suc m) h l =
    let first : ℕ = (stretch_of row).first in
    let width : ℕ = (stretch_of row).width in
    let at : negsuc 19 +ℤ pos m ≡ pos m -ℤ pos 20 = omega (arith, ints) in
    let here : one_if (inner_ellipse (negsuc 19 +ℤ pos m) (pos row -ℤ pos 13)) ≡ one_if (nat_le first m && nat_lt m (first + width)) =
    ap one_if (ap (λ u. inner_ellipse u (pos row -ℤ pos 13)) at ∙ inner-is m row (omega (arith, l)) h) in
    let more : sum_from (negsuc 19) (m + 1) (λ u. one_if (inner_ellipse u (pos row -ℤ pos 13)))
    ≡ sum_from (negsuc 19) m (λ u. one_if (inner_ellipse u (pos row -ℤ pos 13))) + one_if (inner_ellipse (negsuc 19 +ℤ pos m) (pos row -ℤ pos 13)) =
    sum_from-more (negsuc 19) m (λ u. one_if (inner_ellipse u (pos row -ℤ pos 13))) in
    let next : m + 1 ≡ suc m = add-one m in
    ap (λ n. sum_from (negsuc 19) n (λ u. one_if (inner_ellipse u (pos row -ℤ pos 13)))) (sym next)
    ∙ more
    ∙ ap₂ (λ p q. p + q) (row-many row m h (omega (arith, l))) here
    ∙ one-more first width m
    ∙ ap (part_of first width) next

-- how many lie inside the outline in the rows above
abbrev pub above : ℕ → ℕ
above row = count_in (negsuc 19) (negsuc 12) 40 row inner_ellipse

pub above-none : above 0 ≡ 0
unfolding count_in
above-none = refl

part-all : (row : ℕ) → row < 26 → part_of (stretch_of row).first (stretch_of row).width 40 ≡ (stretch_of row).width
part-all row h = let fits = stretch-fits row h in omega (arith, fits)

pub above-more : (row : ℕ) → row < 26 → above (row + 1) ≡ above row + (stretch_of row).width
above-more row h =
    let down : negsuc 12 +ℤ pos row ≡ pos row -ℤ pos 13 = omega (arith, ints) in
    count_in-row_more (negsuc 19) (negsuc 12) 40 row inner_ellipse
    ∙ ap (λ n. above row + n) (
    ap (λ z. sum_from (negsuc 19) 40 (λ u. one_if (inner_ellipse u z))) down
    ∙ row-many row 40 h (omega arith)
    ∙ part-all row h)

-- how many places inside the outline come before a place
count-before : (row column : ℕ) (i j : ℤ) → row < 26 → column ≤ 40 → i ≡ pos column -ℤ pos 20 → j ≡ pos row -ℤ pos 13
    → before (negsuc 19) (negsuc 12) 40 inner_ellipse i j ≡ above row + part_of (stretch_of row).first (stretch_of row).width column
count-before row column i j h l across down =
    let rows : nat_abs (j -ℤ negsuc 12) ≡ row = omega (arith, ints, down) in
    let columns : nat_abs (i -ℤ negsuc 19) ≡ column = omega (arith, ints, across) in
    let one_row : sum_from j 1 (λ v. sum_from (negsuc 19) column (λ u. one_if (inner_ellipse u v))) ≡ sum_from (negsuc 19) column (λ u. one_if (inner_ellipse u j)) = omega arith in
    ap₂ (λ m n. m + n)
    (ap (λ m. count_in (negsuc 19) (negsuc 12) 40 m inner_ellipse) rows)
    (ap (λ m. count_in (negsuc 19) j m 1 inner_ellipse) columns
    ∙ count_in-by_rows (negsuc 19) j column 1 inner_ellipse
    ∙ one_row
    ∙ ap (λ z. sum_from (negsuc 19) column (λ u. one_if (inner_ellipse u z))) down
    ∙ row-many row column h l)

-- ink in one row: the first places of its stretch
abbrev pub cut : ℕ → ℕ → Pixels
cut n row = rectangle (pos (stretch_of row).first -ℤ pos 20) (pos row -ℤ pos 13) (min (n - above row) (stretch_of row).width) 1

stretch-true : (first width m : ℕ) → first ≤ m → m < first + width → (nat_le first m && nat_lt m (first + width)) ≡ true
stretch-true first width m h g = grind arith

stretch-is : (first width m : ℕ) → (nat_le first m && nat_lt m (first + width)) ≡ true → (first ≤ m) × (m < first + width)
stretch-is first width m h = (grind arith, grind arith)

ink-cut : (n row : ℕ) (i j : ℤ) → row < 26 → j ≡ pos row -ℤ pos 13 → ink_pixels (FirstPixels n) i j ≡ true → cut n row i j ≡ true
unfolding ink_pixels
ink-cut n row i j h down is =
    let outer = and_parts _ _ is in
    let inner = and_parts _ _ outer.1 in
    let sides = rectangle-sides (negsuc 19) (negsuc 12) 40 26 i j outer.0 in
    let column : ℕ = nat_abs (i +ℤ pos 20) in
    let across : i ≡ pos column -ℤ pos 20 = omega (arith, ints, sides.0) in
    let few : column < 40 = omega (arith, ints, across, sides.1) in
    let stretch = stretch-is (stretch_of row).first (stretch_of row).width column (sym (ap₂ inner_ellipse across down ∙ inner-is column row few h) ∙ inner.0) in
    let many : above row + part_of (stretch_of row).first (stretch_of row).width column < n =
    below-from_yes _ n (ap (λ m. nat_lt m n) (sym (count-before row column i j h (omega (arith, few)) across down)) ∙ inner.1) in
    rectangle-inside (pos (stretch_of row).first -ℤ pos 20) (pos row -ℤ pos 13) (min (n - above row) (stretch_of row).width) 1 i j
    (omega (arith, ints, across, stretch.0))
    (omega (arith, ints, across, stretch.0, stretch.1, many))
    (omega (arith, ints, down))
    (omega (arith, ints, down))

cut-ink : (n row : ℕ) (i j : ℤ) → row < 26 → cut n row i j ≡ true → ink_pixels (FirstPixels n) i j ≡ true
unfolding ink_pixels
cut-ink n row i j h is =
    let fits = stretch-fits row h in
    let sides = rectangle-sides (pos (stretch_of row).first -ℤ pos 20) (pos row -ℤ pos 13) (min (n - above row) (stretch_of row).width) 1 i j is in
    let down : j ≡ pos row -ℤ pos 13 = omega (arith, ints, sides.2, sides.3) in
    let column : ℕ = nat_abs (i +ℤ pos 20) in
    let across : i ≡ pos column -ℤ pos 20 = omega (arith, ints, sides.0) in
    let from : (stretch_of row).first ≤ column = omega (arith, ints, across, sides.0) in
    let to : column < (stretch_of row).first + min (n - above row) (stretch_of row).width = omega (arith, ints, across, sides.1) in
    let few : column < 40 = omega (arith, to, fits) in
    let many : above row + part_of (stretch_of row).first (stretch_of row).width column < n = omega (arith, from, to) in
    and-both _ _
    (rectangle-inside (negsuc 19) (negsuc 12) 40 26 i j (omega (arith, ints, across)) (omega (arith, ints, across, few)) (omega (arith, ints, down)) (omega (arith, ints, down, h)))
    (and-both _ _
    (ap₂ inner_ellipse across down ∙ inner-is column row few h ∙ stretch-true (stretch_of row).first (stretch_of row).width column from (omega (arith, to)))
    (ap (λ m. nat_lt m n) (count-before row column i j h (omega (arith, few)) across down) ∙ below-yes _ n many))

-- all rows of ink
pub cuts-ink : (n : ℕ) (i j : ℤ) → in_any 26 (cut n) i j ≡ ink_pixels (FirstPixels n) i j
unfolding ink_pixels
cuts-ink n i j =
    same-bool (in_any 26 (cut n) i j) (ink_pixels (FirstPixels n) i j)
    (λ h. let some : (row : ℕ) × (row < 26) × (cut n row i j ≡ true) = in_any-some 26 (cut n) i j h in cut-ink n some.0 i j some.1 some.2)
    (λ h.
    let sides = rectangle-sides (negsuc 19) (negsuc 12) 40 26 i j (and_parts _ _ h).0 in
    let row : ℕ = nat_abs (j +ℤ pos 13) in
    let down : j ≡ pos row -ℤ pos 13 = omega (arith, ints, sides.2) in
    let few : row < 26 = omega (arith, ints, down, sides.3) in
    in_any-one 26 row (cut n) i j few (ink-cut n row i j few down h))

-- a rectangle that is put at a place
pub rectangle-placed : (x y left top width height : ℕ) (a b u v : ℤ) → pos left ≡ pos x +ℤ a → pos top ≡ pos y +ℤ b
    → rectangle (pos left) (pos top) width height u v ≡ placed (pos x) (pos y) (rectangle a b width height) u v
rectangle-placed x y left top width height a b u v across down =
    same-bool (rectangle (pos left) (pos top) width height u v) (placed (pos x) (pos y) (rectangle a b width height) u v)
    (λ h.
    let sides = rectangle-sides (pos left) (pos top) width height u v h in
    rectangle-inside a b width height (u -ℤ pos x) (v -ℤ pos y)
    (omega (arith, ints, sides.0, across)) (omega (arith, ints, sides.1, across)) (omega (arith, ints, sides.2, down)) (omega (arith, ints, sides.3, down)))
    (λ h.
    let sides = rectangle-sides a b width height (u -ℤ pos x) (v -ℤ pos y) h in
    rectangle-inside (pos left) (pos top) width height u v
    (omega (arith, ints, sides.0, across)) (omega (arith, ints, sides.1, across)) (omega (arith, ints, sides.2, down)) (omega (arith, ints, sides.3, down)))

-- one row of ink more
pub placed-more : (x y n row left top : ℕ) (u v : ℤ) → left + 20 ≡ x → top + 13 ≡ y
    → placed (pos x) (pos y) (in_any (row + 1) (cut n)) u v
    ≡ placed (pos x) (pos y) (in_any row (cut n)) u v || rectangle (pos (left + (stretch_of row).first)) (pos (top + row)) (min (n - above row) (stretch_of row).width) 1 u v
placed-more x y n row left top u v across down =
    in_any-more row (cut n) (u -ℤ pos x) (v -ℤ pos y)
    ∙ ap (λ (t : Bool). in_any row (cut n) (u -ℤ pos x) (v -ℤ pos y) || t)
    (sym (rectangle-placed x y (left + (stretch_of row).first) (top + row) (min (n - above row) (stretch_of row).width) 1
    (pos (stretch_of row).first -ℤ pos 20) (pos row -ℤ pos 13) u v (omega (arith, ints, across)) (omega (arith, ints, down))))

-- the box of a bubble
pub placed-box : (x y left top : ℕ) (u v : ℤ) → left + 20 ≡ x → top + 13 ≡ y
    → rectangle (pos left) (pos top) 40 26 u v ≡ placed (pos x) (pos y) (ink_pixels WholeBox) u v
unfolding ink_pixels
placed-box x y left top u v across down =
    rectangle-placed x y left top 40 26 (negsuc 19) (negsuc 12) u v (omega (arith, ints, across)) (omega (arith, ints, down))
