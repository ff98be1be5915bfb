-- One draw more after those that were drawn.
use Rattle.std.proofs.Common.{◌≡◌, ℕ, zero, suc, ◌+◌, ◌<◌, List, [], ◌∷◌, ◌++◌, take, get_or, length, refl, sym, ap, ◌∙◌, arith}
use Rattle.std.proofs.lemmas.List.{take_more}
use Rattle.std.specs.List.{range_with_len}
use Rattle.vx_base.proofs.Ranges.{range-more}
use Rattle.rand_pcg.specs.Lcg.{Lcg}
use Rattle.vx_simulate.specs.Draws.{draw, draws, draw_place, draw_places, draw_all}

pub draws-more : (n bound : ℕ) (g : Lcg)
    → draws (suc n) bound g ≡ ((draws n bound g).0 ++ (draw bound (draws n bound g).1).0 ∷ [], (draw bound (draws n bound g).1).1)
draws-more zero bound g = refl
draws-more (suc n) bound g = ap (λ (p : List ℕ × Lcg). ((draw bound g).0 ∷ p.0, p.1)) (draws-more n bound (draw bound g).1)

pub places-more : (n width height : ℕ) (g : Lcg)
    → draw_places (suc n) width height g
    ≡ ((draw_places n width height g).0 ++ (draw_place width height (draw_places n width height g).1).0 ∷ [], (draw_place width height (draw_places n width height g).1).1)
places-more zero width height g = refl
places-more (suc n) width height g =
    ap (λ (p : List (ℕ × ℕ) × Lcg). ((draw_place width height g).0 ∷ p.0, p.1)) (places-more n width height (draw_place width height g).1)

-- what is drawn for two lists is drawn for the first of them, then for the second
pub all-append : {A B : Type 0} (one : A → Lcg → B × Lcg) (xs ys : List A) (g : Lcg)
    → draw_all one (xs ++ ys) g ≡ ((draw_all one xs g).0 ++ (draw_all one ys (draw_all one xs g).1).0, (draw_all one ys (draw_all one xs g).1).1)
all-append one [] ys g = refl
all-append {B = B} one (x ∷ xs) ys g = ap (λ (p : List B × Lcg). ((one x g).0 ∷ p.0, p.1)) (all-append one xs ys (one x g).1)

-- what is drawn for one element more
pub all-more : {A B : Type 0} (one : A → Lcg → B × Lcg) (xs : List A) (x : A) (g : Lcg)
    → draw_all one (xs ++ x ∷ []) g ≡ ((draw_all one xs g).0 ++ (one x (draw_all one xs g).1).0 ∷ [], (one x (draw_all one xs g).1).1)
all-more one xs x g = all-append one xs (x ∷ []) g

-- for one element more of the front of a list
pub front-drawn : {A B : Type 0} (one : A → Lcg → B × Lcg) (xs : List A) (i : ℕ) (d : A) (g : Lcg) → i < length xs
    → draw_all one (take (i + 1) xs) g
    ≡ ((draw_all one (take i xs) g).0 ++ (one (get_or xs i d) (draw_all one (take i xs) g).1).0 ∷ [], (one (get_or xs i d) (draw_all one (take i xs) g).1).1)
front-drawn {A = A} one xs i d g few =
    ap (λ (ys : List A). draw_all one ys g) (take_more xs i d few) ∙ all-more one (take i xs) (get_or xs i d) g

-- for one number more
pub range-drawn : {B : Type 0} (one : ℕ → Lcg → B × Lcg) (n : ℕ) (g : Lcg)
    → draw_all one (range_with_len 0 (n + 1)) g ≡ ((draw_all one (range_with_len 0 n) g).0 ++ (one n (draw_all one (range_with_len 0 n) g).1).0 ∷ [], (one n (draw_all one (range_with_len 0 n) g).1).1)
range-drawn one n g =
    let same : 0 + n ≡ n = omega arith in
    ap (λ (ns : List ℕ). draw_all one ns g) (range-more 0 n ∙ ap (λ (k : ℕ). range_with_len 0 n ++ k ∷ []) same)
    ∙ all-more one (range_with_len 0 n) n g

-- what is drawn alike for each element is drawn by their number
pub drawn-alike : {A C B : Type 0} (one : Lcg → B × Lcg) (xs : List A) (ys : List C) (g : Lcg) → length xs ≡ length ys
    → draw_all (λ (x : A). one) xs g ≡ draw_all (λ (y : C). one) ys g
drawn-alike one [] [] g same = refl
drawn-alike one [] (y ∷ ys) g same = absurd (omega (arith, same))
drawn-alike one (x ∷ xs) [] g same = absurd (omega (arith, same))
drawn-alike {B = B} one (x ∷ xs) (y ∷ ys) g same =
    ap (λ (p : List B × Lcg). ((one g).0 ∷ p.0, p.1)) (drawn-alike one xs ys (one g).1 (omega (arith, same)))

-- a list and a generator after one thing more is drawn
pub one-laid : {B : Type 0} (step : Lcg → B × Lcg) (done more : List B × Lcg) (so_far all : List B) (x : B) (now next : Lcg)
    → more ≡ (done.0 ++ (step done.1).0 ∷ [], (step done.1).1) → so_far ≡ done.0 → now ≡ done.1 → x ≡ (step now).0 → next ≡ (step now).1
    → all ≡ so_far ++ x ∷ [] → (all ≡ more.0) × (next ≡ more.1)
one-laid {B = B} step done more so_far all x now next is far at drawn moved laid = (
  laid
      ∙ ap (λ (xs : List B). xs ++ x ∷ []) far
      ∙ ap (λ (y : B). done.0 ++ y ∷ []) (drawn ∙ ap (λ (s : Lcg). (step s).0) at)
      ∙ sym (ap (λ (p : List B × Lcg). p.0) is),
  moved ∙ ap (λ (s : Lcg). (step s).1) at ∙ sym (ap (λ (p : List B × Lcg). p.1) is),
)

-- the same after a part of the list
pub part-laid : {B : Type 0} (part : Lcg → List B × Lcg) (done more : List B × Lcg) (so_far all : List B) (now next : Lcg)
    → more ≡ (done.0 ++ (part done.1).0, (part done.1).1) → so_far ≡ done.0 → now ≡ done.1 → all ≡ so_far ++ (part now).0 → next ≡ (part now).1
    → (all ≡ more.0) × (next ≡ more.1)
part-laid {B = B} part done more so_far all now next is far at laid moved = (
  laid
      ∙ ap (λ (xs : List B). xs ++ (part now).0) far
      ∙ ap (λ (s : Lcg). done.0 ++ (part s).0) at
      ∙ sym (ap (λ (p : List B × Lcg). p.0) is),
  moved ∙ ap (λ (s : Lcg). (part s).1) at ∙ sym (ap (λ (p : List B × Lcg). p.1) is),
)

pub draws-next : (n bound : ℕ) (g : Lcg)
    → draws (n + 1) bound g ≡ ((draws n bound g).0 ++ (draw bound (draws n bound g).1).0 ∷ [], (draw bound (draws n bound g).1).1)
draws-next n bound g = let one : n + 1 ≡ suc n = omega arith in ap (λ (k : ℕ). draws k bound g) one ∙ draws-more n bound g

pub places-next : (n width height : ℕ) (g : Lcg)
    → draw_places (n + 1) width height g
    ≡ ((draw_places n width height g).0 ++ (draw_place width height (draw_places n width height g).1).0 ∷ [], (draw_place width height (draw_places n width height g).1).1)
places-next n width height g =
    let one : n + 1 ≡ suc n = omega arith in ap (λ (k : ℕ). draw_places k width height g) one ∙ places-more n width height g
