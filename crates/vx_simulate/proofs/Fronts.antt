-- The first places of a set are as many as there are to be.
use Rattle.std.proofs.Common.{◌≡◌, inl, inr, ℕ, zero, suc, ◌+◌, min, Bool, true, false, ◌&&◌, ℤ, pos, ◌+ℤ◌, ◌-ℤ◌, nat_abs, ap, sym, ◌∙◌, arith}
use Rattle.std.specs.Prelude.{nat_lt}
use Rattle.std.proofs.lemmas.Int.{ints}
use Rattle.vx_base.proofs.Numbers.{below-yes, below-no}
use Rattle.std.proofs.lemmas.Bool.{cases_lt}
use Rattle.vx_plane.specs.Plane.{Pixels}
use Rattle.vx_plane.specs.Count.{one_if, sum_from, count_in}
use Rattle.vx_plane.proofs.Sums.{sum_from-same, sum_from-more}
use Rattle.vx_plane.proofs.Counts.{count_in-by_rows, count_in-rows, count_in-columns, count_in-one, count_in-no_rows, count_in-no_columns}
use Rattle.vx_plane.proofs.Pages.{rectangle-inside}
use Rattle.vx_simulate.specs.Ink.{before, first_of}

-- one more place of a row counts where there are fewer than n before it
one-more : (dark : Bool) (many n : ℕ) → min many n + one_if (dark && nat_lt many n) ≡ min (many + one_if dark) n
one-more false many n = (let none : many + 0 ≡ many = omega arith in omega (arith, none))
one-more true many n = elim (cases_lt many n) [
  | inl less ↦ (let is : one_if (nat_lt many n) ≡ 1 = ap one_if (below-yes many n less) in omega (arith, is, less))
  | inr more ↦ (let is : one_if (nat_lt many n) ≡ 0 = ap one_if (below-no many n more) in omega (arith, is, more))
]

module _ (left top : ℤ) (width : ℕ) (set : Pixels) (n : ℕ) where
  -- a place is one of the first n
  abbrev chosen : ℤ → ℤ → Bool
  chosen u v = set u v && nat_lt (before left top width set u v) n

  row-before : (r k : ℕ) → before left top width set (left +ℤ pos k) (top +ℤ pos r) ≡ count_in left top width r set + count_in left (top +ℤ pos r) k 1 set
  row-before r k =
      let down : (top +ℤ pos r) -ℤ top ≡ pos r = omega (arith, ints) in
      let across : (left +ℤ pos k) -ℤ left ≡ pos k = omega (arith, ints) in
      ap (λ z. count_in left top width (nat_abs z) set + count_in left (top +ℤ pos r) (nat_abs ((left +ℤ pos k) -ℤ left)) 1 set) down
      ∙ ap (λ z. count_in left top width r set + count_in left (top +ℤ pos r) (nat_abs z) 1 set) across

  -- the chosen places of the front of a row
  row-front : (r k : ℕ) → min (count_in left top width r set) n + sum_from left k (λ u. one_if (chosen u (top +ℤ pos r))) ≡ min (count_in left top width r set + count_in left (top +ℤ pos r) k 1 set) n
  row-front r zero =
      let none : count_in left (top +ℤ pos r) 0 1 set ≡ 0 = count_in-no_columns left (top +ℤ pos r) 1 set in
      omega (arith, none)
  row-front r (suc k) =
      let more : suc k ≡ k + 1 = omega arith in
      let above : ℕ = count_in left top width r set in
      let v : ℤ = top +ℤ pos r in
      let u : ℤ = left +ℤ pos k in
      let front : min above n + sum_from left k (λ z. one_if (chosen z v)) ≡ min (above + count_in left v k 1 set) n = row-front r k in
      let step : sum_from left (k + 1) (λ z. one_if (chosen z v)) ≡ sum_from left k (λ z. one_if (chosen z v)) + one_if (chosen u v) = sum_from-more left k (λ z. one_if (chosen z v)) in
      let counted : count_in left v (k + 1) 1 set ≡ count_in left v k 1 set + count_in u v 1 1 set = count_in-columns left v k 1 1 set in
      let one : count_in u v 1 1 set ≡ one_if (set u v) = count_in-one u v set in
      let here : one_if (chosen u v) ≡ one_if (set u v && nat_lt (above + count_in left v k 1 set) n) = ap (λ b. one_if (set u v && nat_lt b n)) (row-before r k) in
      let add : min (above + count_in left v k 1 set) n + one_if (set u v && nat_lt (above + count_in left v k 1 set) n) ≡ min ((above + count_in left v k 1 set) + one_if (set u v)) n = one-more (set u v) (above + count_in left v k 1 set) n in
      let all : min above n + sum_from left (k + 1) (λ z. one_if (chosen z v)) ≡ min (above + count_in left v (k + 1) 1 set) n = omega (arith, front, step, counted, one, here, add) in
      ap (λ m. min above n + sum_from left m (λ z. one_if (chosen z v))) more ∙ all ∙ ap (λ m. min (above + count_in left v m 1 set) n) (sym more)

  -- the chosen places of the first rows
  rows-front : (r : ℕ) → sum_from top r (λ v. sum_from left width (λ u. one_if (chosen u v))) ≡ min (count_in left top width r set) n
  rows-front zero =
      let none : count_in left top width 0 set ≡ 0 = count_in-no_rows left top width set in
      omega (arith, none)
  rows-front (suc r) =
      let more : suc r ≡ r + 1 = omega arith in
      let rows : ℤ → ℕ = λ v. sum_from left width (λ u. one_if (chosen u v)) in
      let front : sum_from top r rows ≡ min (count_in left top width r set) n = rows-front r in
      let step : sum_from top (r + 1) rows ≡ sum_from top r rows + rows (top +ℤ pos r) = sum_from-more top r rows in
      let counted : count_in left top width (r + 1) set ≡ count_in left top width r set + count_in left (top +ℤ pos r) width 1 set = count_in-rows left top width r 1 set in
      let row : min (count_in left top width r set) n + rows (top +ℤ pos r) ≡ min (count_in left top width r set + count_in left (top +ℤ pos r) width 1 set) n = row-front r width in
      let all : sum_from top (r + 1) rows ≡ min (count_in left top width (r + 1) set) n = omega (arith, front, step, counted, row) in
      ap (λ m. sum_from top m rows) more ∙ all ∙ ap (λ m. min (count_in left top width m set) n) (sym more)

  -- so many are the first n of a set
  pub count-first : (height : ℕ) → count_in left top width height (first_of left top width height set n) ≡ min (count_in left top width height set) n
  count-first height =
      count_in-by_rows left top width height (first_of left top width height set n)
      ∙ sum_from-same top height _ _ (λ v a b. sum_from-same left width _ _ (λ u c d.
      ap (λ inside. one_if (inside && chosen u v)) (rectangle-inside left top width height u v c d a b)))
      ∙ rows-front height
