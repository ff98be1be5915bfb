-- Counts are conserved: what a rectangle of the scan shows, and what a rectangle of the paper has.
use Rattle.std.proofs.Common.{◌≡◌, ℕ, ◌≤◌, le_trans, Bool, true, false, ℤ, ◌+ℤ◌, ◌-ℤ◌, ◌&&◌, inl, inr, refl, ap, sym, ◌∙◌, arith}
use Rattle.std.proofs.lemmas.Int.{ints}
use Rattle.std.proofs.Math.IntN.{neg_ℤ}
use Rattle.vx_base.proofs.Booleans.{and-both, and-left}
use Rattle.vx_plane.specs.Plane.{Pixels, rectangle}
use Rattle.vx_plane.specs.Count.{one_if, sum_from, count_in}
use Rattle.vx_plane.proofs.Sums.{sum_from-le, sum_from-orders}
use Rattle.vx_plane.proofs.Counts.{one_if-le, count_in-by_rows, count_in-by_columns, count_in-le}
use Rattle.vx_plane.proofs.Pages.{rectangle-inside, rectangle-outside}
use Rattle.vx_geom.specs.Slants.{Slant, down_by, right_by}
use Rattle.vx_geom.specs.Seen.{seen}
use Rattle.vx_geom.specs.Laws.{ComesFrom, GoesInto, ConservesCounts}
use Rattle.vx_geom.proofs.Runs.{LiesOutside, moved_le}

-- a set, cut with another
abbrev cut : Pixels → Pixels → Pixels
cut a b u v = a u v && b u v

pub cut-none : (a b : Bool) → b ≡ false → one_if (a && b) ≡ 0
cut-none true b h = ap one_if h
cut-none false b h = refl

-- a column that lies outside a rectangle
column-outside : (left top : ℤ) (width height : ℕ) (u v : ℤ) → LiesOutside left width u → rectangle left top width height u v ≡ false
column-outside left top width height u v (inl before) = rectangle-outside left top width height u v (inl before)
column-outside left top width height u v (inr past) = rectangle-outside left top width height u v (inr (inl past))

row-outside : (left top : ℤ) (width height : ℕ) (u v : ℤ) → LiesOutside top height v → rectangle left top width height u v ≡ false
row-outside left top width height u v (inl before) = rectangle-outside left top width height u v (inr (inr (inl before)))
row-outside left top width height u v (inr past) = rectangle-outside left top width height u v (inr (inr (inr past)))

module _ (s : Slant) (set : Pixels) (left top : ℤ) (width height : ℕ) (x y : ℤ) (m n : ℕ) where
  -- the set, so far as it lies in the rectangle of the paper
  abbrev part : Pixels
  part = cut set (rectangle x y m n)

  -- it, with each column moved down
  abbrev lowered : ℤ → ℤ → ℕ
  lowered c v = one_if (part c (v -ℤ down_by s c))

  columns_moved : (v : ℤ) → sum_from left width (λ u. lowered (u -ℤ right_by s v) v) ≤ sum_from x m (λ c. lowered c v)
  columns_moved v =
      moved_le left width x m (neg_ℤ (right_by s v)) (λ c. lowered c v)
      (λ u from to out. cut-none _ _ (column-outside x y m n (u -ℤ right_by s v) ((v -ℤ down_by s (u -ℤ right_by s v))) out))

  rows_moved : (c : ℤ) → sum_from top height (λ v. lowered c v) ≤ sum_from y n (λ r. one_if (part c r))
  rows_moved c =
      moved_le top height y n (neg_ℤ (down_by s c)) (λ r. one_if (part c r))
      (λ v from to out. cut-none _ _ (row-outside x y m n c (v -ℤ down_by s c) out))

  pub seen_le : ComesFrom s set left top width height x y m n → count_in left top width height (seen s set) ≤ count_in x y m n set
  seen_le comes =
      let cut_off : count_in left top width height (seen s set) ≤ count_in left top width height (seen s part) =
      count_in-le left top width height (seen s set) (seen s part)
      (λ u v a b c d shown. and-both _ _ shown (comes u v (rectangle-inside left top width height u v a b c d) shown)) in
      let by_rows : count_in left top width height (seen s part) ≡ sum_from top height (λ v. sum_from left width (λ u. lowered (u -ℤ right_by s v) v)) =
      count_in-by_rows left top width height (seen s part) in
      let across : sum_from top height (λ v. sum_from left width (λ u. lowered (u -ℤ right_by s v) v)) ≤ sum_from top height (λ v. sum_from x m (λ c. lowered c v)) =
      sum_from-le top height _ _ (λ v from to. columns_moved v) in
      let orders : sum_from top height (λ v. sum_from x m (λ c. lowered c v)) ≡ sum_from x m (λ c. sum_from top height (λ v. lowered c v)) =
      sum_from-orders x top m height lowered in
      let down : sum_from x m (λ c. sum_from top height (λ v. lowered c v)) ≤ sum_from x m (λ c. sum_from y n (λ r. one_if (part c r))) =
      sum_from-le x m _ _ (λ c from to. rows_moved c) in
      let by_columns : count_in x y m n part ≡ sum_from x m (λ c. sum_from y n (λ r. one_if (part c r))) = count_in-by_columns x y m n part in
      let whole : count_in x y m n part ≤ count_in x y m n set = count_in-le x y m n part set (λ u v a b c d h. and-left _ _ h) in
      omega (arith, cut_off, by_rows, across, orders, down, by_columns, whole)

  -- what the scan shows of the set at a column of the paper and a row of the scan, so far as it lies in
  -- the rectangle of the scan
  abbrev raised : ℤ → ℤ → ℕ
  raised c v = one_if (set c (v -ℤ down_by s c) && rectangle left top width height (c +ℤ right_by s v) v)

  abbrev shown_in : ℤ → ℤ → ℕ
  shown_in v u = one_if (seen s set u v && rectangle left top width height u v)

  raised-there : GoesInto s set x y m n left top width height → (c r : ℤ) → rectangle x y m n c r ≡ true → one_if (set c r) ≤ raised c (r +ℤ down_by s c)
  raised-there goes c r inside =
      let back : (r +ℤ down_by s c) -ℤ down_by s c ≡ r = omega (arith, ints) in
      one_if-le (set c r) _ (λ h. and-both _ _ (ap (λ z. set c z) back ∙ h) (goes c r inside h))

  rows_raised : (c : ℤ) → sum_from y n (λ r. raised c (r +ℤ down_by s c)) ≤ sum_from top height (λ v. raised c v)
  rows_raised c =
      moved_le y n top height (down_by s c) (λ v. raised c v)
      (λ r from to out. cut-none _ _ (row-outside left top width height (c +ℤ right_by s (r +ℤ down_by s c)) (r +ℤ down_by s c) out))

  raised-shown : (v c : ℤ) → raised c v ≡ shown_in v (c +ℤ right_by s v)
  raised-shown v c =
      let back : (c +ℤ right_by s v) -ℤ right_by s v ≡ c = omega (arith, ints) in
      ap (λ z. one_if (set z (v -ℤ down_by s z) && rectangle left top width height (c +ℤ right_by s v) v)) (sym back)

  columns_raised : (v : ℤ) → sum_from x m (λ c. shown_in v (c +ℤ right_by s v)) ≤ sum_from left width (λ u. shown_in v u)
  columns_raised v =
      moved_le x m left width (right_by s v) (λ u. shown_in v u)
      (λ c from to out. cut-none _ _ (column-outside left top width height (c +ℤ right_by s v) v out))

  pub seen_ge : GoesInto s set x y m n left top width height → count_in x y m n set ≤ count_in left top width height (seen s set)
  seen_ge goes =
      let by_columns : count_in x y m n set ≡ sum_from x m (λ c. sum_from y n (λ r. one_if (set c r))) = count_in-by_columns x y m n set in
      let there : sum_from x m (λ c. sum_from y n (λ r. one_if (set c r))) ≤ sum_from x m (λ c. sum_from y n (λ r. raised c (r +ℤ down_by s c))) =
      sum_from-le x m _ _ (λ c a b. sum_from-le y n _ _ (λ r d e. raised-there goes c r (rectangle-inside x y m n c r a b d e))) in
      let down : sum_from x m (λ c. sum_from y n (λ r. raised c (r +ℤ down_by s c))) ≤ sum_from x m (λ c. sum_from top height (λ v. raised c v)) =
      sum_from-le x m _ _ (λ c a b. rows_raised c) in
      let orders : sum_from top height (λ v. sum_from x m (λ c. raised c v)) ≡ sum_from x m (λ c. sum_from top height (λ v. raised c v)) =
      sum_from-orders x top m height raised in
      let across : sum_from top height (λ v. sum_from x m (λ c. raised c v)) ≤ sum_from top height (λ v. sum_from left width (λ u. shown_in v u)) =
      sum_from-le top height _ _ (λ v a b. le_trans (sum_from-le x m _ _ (λ c d e. let same : raised c v ≡ shown_in v (c +ℤ right_by s v) = raised-shown v c in omega (arith, same))) (columns_raised v)) in
      let by_rows : count_in left top width height (seen s set) ≡ sum_from top height (λ v. sum_from left width (λ u. one_if (seen s set u v))) =
      count_in-by_rows left top width height (seen s set) in
      let whole : sum_from top height (λ v. sum_from left width (λ u. shown_in v u)) ≤ sum_from top height (λ v. sum_from left width (λ u. one_if (seen s set u v))) =
      sum_from-le top height _ _ (λ v a b. sum_from-le left width _ _ (λ u d e. one_if-le _ _ (and-left _ _))) in
      omega (arith, by_columns, there, down, orders, across, by_rows, whole)

pub conserves-counts : (s : Slant) → ConservesCounts s
conserves-counts s = record {
  at_most = λ set left top width height x y m n comes. seen_le s set left top width height x y m n comes;
  at_least = λ set left top width height x y m n goes. seen_ge s set left top width height x y m n goes;
}
