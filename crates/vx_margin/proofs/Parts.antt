-- Counts in rectangles that lie in each other.
use Rattle.std.proofs.Common.{◌≡◌, ◌⊎◌, inl, inr, ℕ, zero, suc, ◌+◌, ◌*◌, ◌≤◌, ◌<◌, le_trans, Bool, true, false, ◌&&◌, ◌||◌, ℤ, pos, ◌+ℤ◌, ◌-ℤ◌, ◌≤ℤ◌, ◌<ℤ◌, refl, ap, sym, ◌∙◌, arith}
use Rattle.std.proofs.lemmas.Int.{ints}
use Rattle.vx_plane.specs.Plane.{Pixels, rectangle, union}
use Rattle.vx_plane.specs.Count.{one_if, sum_from, count_in}
use Rattle.vx_plane.proofs.Sums.{sum_from-same, sum_from-le, sum_from-same_number}
use Rattle.vx_plane.proofs.Counts.{count_in-by_rows, count_in-le, count_in-rows, count_in-columns, count_in-all, count_in-union_le}
use Rattle.vx_plane.proofs.Pages.{rectangle-inside, rectangle-sides, rectangle-outside}
use Rattle.vx_geom.proofs.Runs.{LiesOutside, run_le}
use Rattle.vx_geom.proofs.Shown.{cut-none}

kept : (a b : Bool) → (a ≡ true → b ≡ true) → one_if a ≡ one_if (a && b)
kept true b h = ap one_if (sym (h refl))
kept false b h = refl

less : (a b : Bool) → one_if (a && b) ≤ one_if a
less true true = omega arith
less true false = omega arith
less false b = omega arith

-- what a rectangle has of a set is at most what another one has, where each of its places that is in the set
-- lies in the other
module _ (set : Pixels) (left top : ℤ) (width height : ℕ) (x y : ℤ) (m n : ℕ) where
  abbrev part : ℤ → ℤ → ℕ
  part u v = one_if (set u v && rectangle x y m n u v)

  columns_out : (u v : ℤ) → LiesOutside x m u → part u v ≡ 0
  columns_out u v (inl before) = cut-none _ _ (rectangle-outside x y m n u v (inl before))
  columns_out u v (inr past) = cut-none _ _ (rectangle-outside x y m n u v (inr (inl past)))

  row_out : (u v : ℤ) → LiesOutside y n v → part u v ≡ 0
  row_out u v (inl before) = cut-none _ _ (rectangle-outside x y m n u v (inr (inr (inl before))))
  row_out u v (inr past) = cut-none _ _ (rectangle-outside x y m n u v (inr (inr (inr past))))

  rows_out : (v : ℤ) → LiesOutside y n v → sum_from x m (λ u. part u v) ≡ 0
  rows_out v out = sum_from-same x m (λ u. part u v) (λ u. 0) (λ u a b. row_out u v out) ∙ sum_from-same_number x m 0 ∙ omega arith

  pub count_in-into : ((u v : ℤ) → rectangle left top width height u v ≡ true → set u v ≡ true → rectangle x y m n u v ≡ true)
      → count_in left top width height set ≤ count_in x y m n set
  count_in-into into =
      let by_rows : count_in left top width height set ≡ sum_from top height (λ v. sum_from left width (λ u. one_if (set u v))) = count_in-by_rows left top width height set in
      let all : sum_from top height (λ v. sum_from left width (λ u. one_if (set u v))) ≡ sum_from top height (λ v. sum_from left width (λ u. part u v)) =
      sum_from-same top height _ _ (λ v c d. sum_from-same left width _ _ (λ u a b. kept (set u v) (rectangle x y m n u v) (into u v (rectangle-inside left top width height u v a b c d)))) in
      let across : sum_from top height (λ v. sum_from left width (λ u. part u v)) ≤ sum_from top height (λ v. sum_from x m (λ u. part u v)) =
      sum_from-le top height _ _ (λ v c d. run_le left width x m (λ u. part u v) (λ u a b out. columns_out u v out)) in
      let down : sum_from top height (λ v. sum_from x m (λ u. part u v)) ≤ sum_from y n (λ v. sum_from x m (λ u. part u v)) =
      run_le top height y n (λ v. sum_from x m (λ u. part u v)) (λ v c d out. rows_out v out) in
      let fewer : sum_from y n (λ v. sum_from x m (λ u. part u v)) ≤ sum_from y n (λ v. sum_from x m (λ u. one_if (set u v))) =
      sum_from-le y n _ _ (λ v c d. sum_from-le x m _ _ (λ u a b. less (set u v) (rectangle x y m n u v))) in
      let by_rows_2 : count_in x y m n set ≡ sum_from y n (λ v. sum_from x m (λ u. one_if (set u v))) = count_in-by_rows x y m n set in
      omega (arith, by_rows, all, across, down, fewer, by_rows_2)

-- a rectangle in another
pub count_in-inside : (left top : ℤ) (width height : ℕ) (x y : ℤ) (m n : ℕ) (set : Pixels)
    → x ≤ℤ left → (left +ℤ pos width) ≤ℤ (x +ℤ pos m) → y ≤ℤ top → (top +ℤ pos height) ≤ℤ (y +ℤ pos n)
    → count_in left top width height set ≤ count_in x y m n set
count_in-inside left top width height x y m n set a b c d =
    count_in-into set left top width height x y m n
    (λ u v inside h. let sides = rectangle-sides left top width height u v inside in
    rectangle-inside x y m n u v (omega (arith, ints, a, sides.0)) (omega (arith, ints, b, sides.1)) (omega (arith, ints, c, sides.2)) (omega (arith, ints, d, sides.3)))

-- a rectangle of the set in another gives its area
pub count_in-at_least : (left top : ℤ) (width height : ℕ) (x y : ℤ) (m n : ℕ) (set : Pixels)
    → x ≤ℤ left → (left +ℤ pos width) ≤ℤ (x +ℤ pos m) → y ≤ℤ top → (top +ℤ pos height) ≤ℤ (y +ℤ pos n)
    → ((u v : ℤ) → left ≤ℤ u → u <ℤ (left +ℤ pos width) → top ≤ℤ v → v <ℤ (top +ℤ pos height) → set u v ≡ true)
    → height * width ≤ count_in x y m n set
count_in-at_least left top width height x y m n set a b c d all =
    let whole : count_in left top width height set ≡ height * width = count_in-all left top width height set all in
    let most : count_in left top width height set ≤ count_in x y m n set = count_in-inside left top width height x y m n set a b c d in
    rw (sym whole) most

-- a summand above 0 of a sum above 0
record IsSome (low : ℤ) (n : ℕ) (f : ℤ → ℕ) : Type 0 where
  at : ℤ
  from : low ≤ℤ at
  to : at <ℤ (low +ℤ pos n)
  some : 0 < f at

some_here : (low : ℤ) (n k : ℕ) (f : ℤ → ℕ) → f low ≡ k → 0 < sum_from low (suc n) f → (0 < sum_from (low +ℤ pos 1) n f → IsSome (low +ℤ pos 1) n f) → IsSome low (suc n) f
some_here low n zero f e some later =
    let rest : IsSome (low +ℤ pos 1) n f = later (omega (arith, e, some)) in
    record { at = rest.at; from = omega (arith, ints, rest.from); to = omega (arith, ints, rest.to); some = rest.some }
some_here low n (suc k) f e some later = record { at = low; from = omega (arith, ints); to = omega (arith, ints); some = omega (arith, e) }

sum_from-some : (low : ℤ) (n : ℕ) (f : ℤ → ℕ) → 0 < sum_from low n f → IsSome low n f
sum_from-some low zero f some = absurd (omega (arith, some))
sum_from-some low (suc n) f some = some_here low n (f low) f refl some (sum_from-some (low +ℤ pos 1) n f)

one_if-some : (b : Bool) → 0 < one_if b → b ≡ true
one_if-some true h = refl
one_if-some false h = absurd (omega (arith, h))

-- a place of a rectangle that is in a set
pub record HasPlace (left top : ℤ) (width height : ℕ) (set : Pixels) : Type 0 where
  pub u : ℤ
  pub v : ℤ
  pub from : left ≤ℤ u
  pub to : u <ℤ (left +ℤ pos width)
  pub over : top ≤ℤ v
  pub under : v <ℤ (top +ℤ pos height)
  pub is : set u v ≡ true

-- a count above 0 has a place
pub count_in-some : (left top : ℤ) (width height : ℕ) (set : Pixels) → 0 < count_in left top width height set → HasPlace left top width height set
unfolding count_in
count_in-some left top width height set some =
    let row = sum_from-some top height (λ v. sum_from left width (λ u. one_if (set u v))) some in
    let place = sum_from-some left width (λ u. one_if (set u row.at)) row.some in
    record { u = place.at; v = row.at; from = place.from; to = place.to; over = row.from; under = row.to; is = one_if-some _ place.some }

either : (a b f : Bool) → (a ≡ b) ⊎ (f ≡ true) → a ≡ true → (b || f) ≡ true
either true true f h e = refl
either true false f (inl same) e = cc
either true false f (inr h) e = h
either false b f h e = cc

-- a set that another one and some changes hold
pub changed-le : (left top : ℤ) (width height : ℕ) (a b f : Pixels)
    → ((u v : ℤ) → left ≤ℤ u → u <ℤ (left +ℤ pos width) → top ≤ℤ v → v <ℤ (top +ℤ pos height) → (a u v ≡ b u v) ⊎ (f u v ≡ true))
    → count_in left top width height a ≤ count_in left top width height b + count_in left top width height f
changed-le left top width height a b f same =
    le_trans
    (count_in-le left top width height a (union b f) (λ u v c d e g h. either (a u v) (b u v) (f u v) (same u v c d e g) h))
    (count_in-union_le left top width height b f)

-- the core and the flanks of a place are parts of its footprint
pub five-parts : (u v : ℤ) (set : Pixels) →
    count_in (u -ℤ pos 17) (v -ℤ pos 5) 34 10 set
    + (count_in (u -ℤ pos 23) (v -ℤ pos 5) 4 10 set + count_in (u +ℤ pos 19) (v -ℤ pos 5) 4 10 set
    + count_in (u -ℤ pos 17) (v -ℤ pos 11) 34 4 set + count_in (u -ℤ pos 17) (v +ℤ pos 7) 34 4 set)
    ≤ count_in (u -ℤ pos 23) (v -ℤ pos 11) 46 22 set
five-parts u v set =
    let l : ℤ = u -ℤ pos 23 in
    let t : ℤ = v -ℤ pos 11 in
    let rows : count_in l t 46 22 set ≡ count_in l t 46 6 set + count_in l (t +ℤ pos 6) 46 16 set = count_in-rows l t 46 6 16 set in
    let below : count_in l (t +ℤ pos 6) 46 16 set ≡ count_in l (t +ℤ pos 6) 46 10 set + count_in l ((t +ℤ pos 6) +ℤ pos 10) 46 6 set = count_in-rows l (t +ℤ pos 6) 46 10 6 set in
    let columns : count_in l (t +ℤ pos 6) 46 10 set ≡ count_in l (t +ℤ pos 6) 6 10 set + count_in (l +ℤ pos 6) (t +ℤ pos 6) 40 10 set = count_in-columns l (t +ℤ pos 6) 6 40 10 set in
    let past : count_in (l +ℤ pos 6) (t +ℤ pos 6) 40 10 set ≡ count_in (l +ℤ pos 6) (t +ℤ pos 6) 34 10 set + count_in ((l +ℤ pos 6) +ℤ pos 34) (t +ℤ pos 6) 6 10 set = count_in-columns (l +ℤ pos 6) (t +ℤ pos 6) 34 6 10 set in
    let core : count_in (u -ℤ pos 17) (v -ℤ pos 5) 34 10 set ≤ count_in (l +ℤ pos 6) (t +ℤ pos 6) 34 10 set = count_in-inside _ _ 34 10 _ _ 34 10 set (omega (arith, ints)) (omega (arith, ints)) (omega (arith, ints)) (omega (arith, ints)) in
    let left : count_in (u -ℤ pos 23) (v -ℤ pos 5) 4 10 set ≤ count_in l (t +ℤ pos 6) 6 10 set = count_in-inside _ _ 4 10 _ _ 6 10 set (omega (arith, ints)) (omega (arith, ints)) (omega (arith, ints)) (omega (arith, ints)) in
    let right : count_in (u +ℤ pos 19) (v -ℤ pos 5) 4 10 set ≤ count_in ((l +ℤ pos 6) +ℤ pos 34) (t +ℤ pos 6) 6 10 set = count_in-inside _ _ 4 10 _ _ 6 10 set (omega (arith, ints)) (omega (arith, ints)) (omega (arith, ints)) (omega (arith, ints)) in
    let top : count_in (u -ℤ pos 17) (v -ℤ pos 11) 34 4 set ≤ count_in l t 46 6 set = count_in-inside _ _ 34 4 _ _ 46 6 set (omega (arith, ints)) (omega (arith, ints)) (omega (arith, ints)) (omega (arith, ints)) in
    let bottom : count_in (u -ℤ pos 17) (v +ℤ pos 7) 34 4 set ≤ count_in l ((t +ℤ pos 6) +ℤ pos 10) 46 6 set = count_in-inside _ _ 34 4 _ _ 46 6 set (omega (arith, ints)) (omega (arith, ints)) (omega (arith, ints)) (omega (arith, ints)) in
    omega (arith, rows, below, columns, past, core, left, right, top, bottom)
