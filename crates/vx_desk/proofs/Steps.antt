-- Walks over lists: what an element decides, and what is left behind it.
use Rattle.std.proofs.Common.{◌≡◌, ◌≤◌, ◌<◌, ◌+◌, ℕ, Bool, true, false, cond, List, [], ◌∷◌, ◌++◌, length, drop, map, get_or, refl, sym, ap, ◌∙◌, append_assoc, arith}
use Rattle.std.specs.Prelude.{◌||◌, filter, find, fold, Some, None}
use Rattle.std.specs.List.{list_any, flat_map, range_with_len}
use Rattle.std.proofs.lemmas.List.{drop_more, drop_all}
use Rattle.vx_base.proofs.Ranges.{flat_map-range_more, map-laid}

-- what is left begins with the element at the index
pub begins : {X : Type 0} (xs : List X) (i : ℕ) (x : X) → i < length xs → x ≡ get_or xs i x → drop i xs ≡ x ∷ drop (i + 1) xs
begins {X} xs i x within is = drop_more xs i x within ∙ ap (λ (y : X). y ∷ drop (i + 1) xs) (sym is)

module _ {X : Type 0} (test : X → Bool) (xs : List X) (i : ℕ) (x : X) (within : i < length xs) (is : x ≡ get_or xs i x) where
  pub any_here : test x ≡ true → list_any test (drop i xs) ≡ true
  any_here passes = ap (list_any test) (begins xs i x within is) ∙ ap (λ (b : Bool). b || list_any test (drop (i + 1) xs)) passes

  pub any_later : test x ≡ false → list_any test (drop (i + 1) xs) ≡ list_any test (drop i xs)
  any_later other =
      sym (ap (list_any test) (begins xs i x within is) ∙ ap (λ (b : Bool). b || list_any test (drop (i + 1) xs)) other)

  pub find_here : test x ≡ true → find test (drop i xs) ≡ Some x
  find_here passes = ap (find test) (begins xs i x within is) ∙ ap (λ (b : Bool). cond b (Some x) (find test (drop (i + 1) xs))) passes

  pub find_later : test x ≡ false → find test (drop (i + 1) xs) ≡ find test (drop i xs)
  find_later other =
      sym (ap (find test) (begins xs i x within is) ∙ ap (λ (b : Bool). cond b (Some x) (find test (drop (i + 1) xs))) other)

-- where nothing is left nothing passes
pub any_none : {X : Type 0} (test : X → Bool) (xs : List X) (i : ℕ) → length xs ≤ i → list_any test (drop i xs) ≡ false
any_none test xs i past = ap (list_any test) (drop_all i xs past)

pub find_none : {X : Type 0} (test : X → Bool) (xs : List X) (i : ℕ) → length xs ≤ i → find test (drop i xs) ≡ None
find_none test xs i past = ap (find test) (drop_all i xs past)

-- what was made for the numbers so far, and for one more
pub laid : {X : Type 0} (f : ℕ → List X) (so_far now : List X) (n : ℕ) → so_far ≡ flat_map f (range_with_len 0 n) → now ≡ so_far ++ f n → now ≡ flat_map f (range_with_len 0 (n + 1))
laid {X} f so_far now n before step = step ∙ ap (λ (xs : List X). xs ++ f n) before ∙ sym (flat_map-range_more f n)

pub laid_one : {X : Type 0} (f : ℕ → X) (old so_far now : List X) (n : ℕ) → so_far ≡ old ++ map f (range_with_len 0 n) → now ≡ so_far ++ f n ∷ [] → now ≡ old ++ map f (range_with_len 0 (n + 1))
laid_one f old so_far now n before step = map-laid f old so_far now n before step

-- how many pass so far, and of those left
counted : {X : Type 0} (x : X) (rest : List X) (b : Bool) → length (cond b (x ∷ rest) rest) ≡ cond b 1 0 + length rest
counted x rest true = omega arith
counted x rest false = omega arith

module _ {X : Type 0} (test : X → Bool) (xs : List X) (i : ℕ) (x : X) (within : i < length xs) (is : x ≡ get_or xs i x) where
  pub count_more : test x ≡ true → length (filter test (drop i xs)) ≡ 1 + length (filter test (drop (i + 1) xs))
  count_more passes =
      ap (λ (some : List X). length (filter test some)) (begins xs i x within is)
      ∙ counted x (filter test (drop (i + 1) xs)) (test x)
      ∙ ap (λ (b : Bool). cond b 1 0 + length (filter test (drop (i + 1) xs))) passes

  pub count_same : test x ≡ false → length (filter test (drop i xs)) ≡ length (filter test (drop (i + 1) xs))
  count_same other =
      ap (λ (some : List X). length (filter test some)) (begins xs i x within is)
      ∙ counted x (filter test (drop (i + 1) xs)) (test x)
      ∙ ap (λ (b : Bool). cond b 1 0 + length (filter test (drop (i + 1) xs))) other
      ∙ omega arith

pub count_none : {X : Type 0} (test : X → Bool) (xs : List X) (i : ℕ) → length xs ≤ i → length (filter test (drop i xs)) ≡ 0
count_none {X} test xs i past = ap (λ (some : List X). length (filter test some)) (drop_all i xs past)

-- a fold over those left, with the next one
pub fold_later : {X Y : Type 0} (f : Y → X → Y) (a : Y) (xs : List X) (i : ℕ) (x : X) → i < length xs → x ≡ get_or xs i x → fold f (f a x) (drop (i + 1) xs) ≡ fold f a (drop i xs)
fold_later f a xs i x within is = sym (ap (fold f a) (begins xs i x within is))

pub fold_none : {X Y : Type 0} (f : Y → X → Y) (a : Y) (xs : List X) (i : ℕ) → length xs ≤ i → fold f a (drop i xs) ≡ a
fold_none f a xs i past = ap (fold f a) (drop_all i xs past)
