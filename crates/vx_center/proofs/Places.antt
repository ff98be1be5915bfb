-- First places of lists, and maps of lists.
use Rattle.std.proofs.Common.{◌≡◌, ◌≢◌, ℕ, zero, suc, ◌+◌, ◌<◌, ◌⊎◌, inl, inr, Bool, true, false, cond, List, [], ◌∷◌, ◌++◌, length, map, refl, sym, ap, ap₂, subst, ◌∙◌, arith}
use Rattle.std.specs.Prelude.{Option, Some, None, Result, Ok, Err, IsOk, OnOk, nat_lt, slice_get, find, position}
use Rattle.std.specs.List.{position_from, position_or_len}
use Rattle.std.specs.Map.{keys_of, values_of}
use Rattle.std.proofs.lemmas.Option.{same_Some}
use Rattle.indexmap.specs.IndexMap.{set_value_at, insert_entry}
use Rattle.std.proofs.lemmas.Bool.Decides.{nat_tests}

-- no element passes
pub record Missing {X : Type 0} (p : X → Bool) (from : ℕ) (xs : List X) : Type 0 where
  pub place : position_from p from xs ≡ None
  pub found : find p xs ≡ None

-- the first element that passes, and its place
pub record Located {X : Type 0} (p : X → Bool) (from : ℕ) (xs : List X) : Type 0 where
  pub index : ℕ
  pub element : X
  pub place : position_from p from xs ≡ Some (from + index)
  pub found : find p xs ≡ Some element
  pub there : slice_get xs index ≡ Some element
  pub passes : p element ≡ true

-- one or the other
pub locate : {X : Type 0} (p : X → Bool) (from : ℕ) (xs : List X) → Missing p from xs ⊎ Located p from xs
locate p from [] = inl (record { place = refl; found = refl })
locate {X} p from (x ∷ xs) = by (p x) refl (locate p (from + 1) xs)
  where
    by : (b : Bool) → p x ≡ b → Missing p (from + 1) xs ⊎ Located p (from + 1) xs → Missing p from (x ∷ xs) ⊎ Located p from (x ∷ xs)
    by true e rest =
        let same : from ≡ from + 0 = omega arith in
        inr (record {
          index = 0;
          element = x;
          place = ap (λ (c : Bool). cond c (Some from) (position_from p (from + 1) xs)) e ∙ ap Some same;
          found = ap (λ (c : Bool). cond c (Some x) (find p xs)) e;
          there = refl;
          passes = e;
        })
    by false e (inl missing) = inl (record {
      place = ap (λ (c : Bool). cond c (Some from) (position_from p (from + 1) xs)) e ∙ missing.place;
      found = ap (λ (c : Bool). cond c (Some x) (find p xs)) e ∙ missing.found;
    })
    by false e (inr located) =
        let same : from + 1 + located.index ≡ from + suc located.index = omega arith in
        inr (record {
          index = suc located.index;
          element = located.element;
          place = ap (λ (c : Bool). cond c (Some from) (position_from p (from + 1) xs)) e ∙ located.place ∙ ap Some same;
          found = ap (λ (c : Bool). cond c (Some x) (find p xs)) e ∙ located.found;
          there = located.there;
          passes = located.passes;
        })

-- std's word for the first place says the same
pub position-from : {X : Type 0} (p : X → Bool) (from : ℕ) (xs : List X) → position_from p from xs ≡ cond (nat_lt (position_or_len p xs) (length xs)) (Some (from + position_or_len p xs)) None
position-from p from [] = refl
position-from {X} p from (x ∷ xs) = by (p x) refl (position-from p (from + 1) xs)
  where
    by : (b : Bool) → p x ≡ b → position_from p (from + 1) xs ≡ cond (nat_lt (position_or_len p xs) (length xs)) (Some (from + 1 + position_or_len p xs)) None
        → position_from p from (x ∷ xs) ≡ cond (nat_lt (position_or_len p (x ∷ xs)) (length (x ∷ xs))) (Some (from + position_or_len p (x ∷ xs))) None
    by true e rest = grind (arith, nat_tests)
    by false e rest = grind (arith, nat_tests)

pub position-is : {X : Type 0} (p : X → Bool) (xs : List X) → position p xs ≡ position_from p 0 xs
position-is p xs =
    let same : 0 + position_or_len p xs ≡ position_or_len p xs = omega arith in
    sym (position-from p 0 xs ∙ ap (λ n. cond (nat_lt (position_or_len p xs) (length xs)) (Some n) None) same)

-- places in a map
pub position_from-map : {X Y : Type 0} (p : Y → Bool) (f : X → Y) (from : ℕ) (xs : List X) → position_from p from (map f xs) ≡ position_from (λ (x : X). p (f x)) from xs
position_from-map p f from [] = refl
position_from-map p f from (x ∷ xs) = ap (λ (rest : Option ℕ). cond (p (f x)) (Some from) rest) (position_from-map p f (from + 1) xs)

-- two tests that agree on each element find the same place
pub position_from-same : {X : Type 0} (p q : X → Bool) (from : ℕ) (xs : List X) → ((i : ℕ) (x : X) → slice_get xs i ≡ Some x → p x ≡ q x) → position_from p from xs ≡ position_from q from xs
position_from-same p q from [] same = refl
position_from-same {X} p q from (x ∷ xs) same =
    ap₂ (λ (b : Bool) (rest : Option ℕ). cond b (Some from) rest) (same 0 x refl)
    (position_from-same p q (from + 1) xs (λ i y there. same (suc i) y there))

-- what is found in front is found there behind which more stands
pub position_from-front : {X : Type 0} (p : X → Bool) (from : ℕ) (xs ys : List X) (place : ℕ) → position_from p from xs ≡ Some place → position_from p from (xs ++ ys) ≡ Some place
position_from-front p from [] ys place h = absurd cc
position_from-front {X} p from (x ∷ xs) ys place h = by (p x) refl (position_from-front p (from + 1) xs ys place)
  where
    by : (b : Bool) → p x ≡ b → (position_from p (from + 1) xs ≡ Some place → position_from p (from + 1) (xs ++ ys) ≡ Some place) → cond (p x) (Some from) (position_from p (from + 1) (xs ++ ys)) ≡ Some place
    by true e rest = ap (λ (c : Bool). cond c (Some from) (position_from p (from + 1) (xs ++ ys))) e ∙ sym (ap (λ (c : Bool). cond c (Some from) (position_from p (from + 1) xs)) e) ∙ h
    by false e rest =
        ap (λ (c : Bool). cond c (Some from) (position_from p (from + 1) (xs ++ ys))) e
        ∙ rest (sym (ap (λ (c : Bool). cond c (Some from) (position_from p (from + 1) xs)) e) ∙ h)

-- what isn't found in front is found behind
pub position_from-behind : {X : Type 0} (p : X → Bool) (from : ℕ) (xs ys : List X) → position_from p from xs ≡ None → position_from p from (xs ++ ys) ≡ position_from p (from + length xs) ys
position_from-behind p from [] ys h =
    let same : from ≡ from + 0 = omega arith in ap (λ n. position_from p n ys) same
position_from-behind {X} p from (x ∷ xs) ys h = by (p x) refl (position_from-behind p (from + 1) xs ys)
  where
    by : (b : Bool) → p x ≡ b → (position_from p (from + 1) xs ≡ None → position_from p (from + 1) (xs ++ ys) ≡ position_from p (from + 1 + length xs) ys) → cond (p x) (Some from) (position_from p (from + 1) (xs ++ ys)) ≡ position_from p (from + suc (length xs)) ys
    by true e rest = let some = sym (ap (λ (c : Bool). cond c (Some from) (position_from p (from + 1) xs)) e) ∙ h in absurd cc
    by false e rest =
        let same : from + 1 + length xs ≡ from + suc (length xs) = omega arith in
        ap (λ (c : Bool). cond c (Some from) (position_from p (from + 1) (xs ++ ys))) e
        ∙ rest (sym (ap (λ (c : Bool). cond c (Some from) (position_from p (from + 1) xs)) e) ∙ h)
        ∙ ap (λ n. position_from p n ys) same

-- what isn't found anywhere isn't found in front
pub position_from-none : {X : Type 0} (p : X → Bool) (from : ℕ) (xs ys : List X) → position_from p from (xs ++ ys) ≡ None → position_from p from xs ≡ None
position_from-none {X} p from xs ys h = by (position_from p from xs) refl
  where
    by : (found : Option ℕ) → position_from p from xs ≡ found → position_from p from xs ≡ None
    by None e = e
    by (Some place) e = let there = position_from-front p from xs ys place e in absurd cc

-- the same of what is found itself
pub find-behind : {X : Type 0} (p : X → Bool) (xs ys : List X) → find p xs ≡ None → find p (xs ++ ys) ≡ find p ys
find-behind p [] ys h = refl
find-behind {X} p (y ∷ xs) ys h = by (p y) h (find-behind p xs ys)
  where
    by : (b : Bool) → cond b (Some y) (find p xs) ≡ None → (find p xs ≡ None → find p (xs ++ ys) ≡ find p ys) → cond b (Some y) (find p (xs ++ ys)) ≡ find p ys
    by true h rest = absurd cc
    by false h rest = rest h

-- where no place passes, nothing is found
pub none-found : {X : Type 0} (p : X → Bool) (from : ℕ) (xs : List X) → position_from p from xs ≡ None → find p xs ≡ None
none-found p from xs h = by (locate p from xs)
  where
    by : Missing p from xs ⊎ Located p from xs → find p xs ≡ None
    by (inl missing) = missing.found
    by (inr located) = let some = sym located.place ∙ h in absurd cc

-- a list that is mapped by two functions that agree everywhere
pub map-same : {X Y : Type 0} (f g : X → Y) (xs : List X) → ((i : ℕ) (x : X) → slice_get xs i ≡ Some x → g x ≡ f x) → map g xs ≡ map f xs
map-same f g [] same = refl
map-same {Y = Y} f g (x ∷ xs) same =
    ap₂ (λ (y : Y) (ys : List Y). y ∷ ys) (same 0 x refl) (map-same f g xs (λ i z there. same (suc i) z there))

-- or everywhere but at one place, where the second part differs
pub map-but_one : {X K V : Type 0} (f g : X → K × V) (xs : List X) (place : ℕ) (w : V)
    → ((i : ℕ) (x : X) → slice_get xs i ≡ Some x → i ≢ place → g x ≡ f x)
    → ((x : X) → slice_get xs place ≡ Some x → g x ≡ ((f x).0, w))
    → map g xs ≡ set_value_at (map f xs) place w
map-but_one f g [] place w others here = refl
map-but_one {K = K} {V = V} f g (x ∷ xs) zero w others here =
    ap₂ (λ (y : K × V) (ys : List (K × V)). y ∷ ys) (here x refl)
    (map-same f g xs (λ i z there. others (suc i) z there (λ e. absurd cc)))
map-but_one {K = K} {V = V} f g (x ∷ xs) (suc place) w others here =
    ap₂ (λ (y : K × V) (ys : List (K × V)). y ∷ ys) (others 0 x refl (λ e. absurd cc))
    (map-but_one f g xs place w (λ i z there apart. others (suc i) z there (λ e. apart (omega arith))) (λ z there. here z there))

-- a new key goes last
pub insert-new : {K V : Type 0} (eq : K → K → Bool) (from : ℕ) (entries : List (K × V)) (key : K) (value : V) → position_from (eq key) from (keys_of entries) ≡ None → insert_entry eq entries key value ≡ entries ++ (key, value) ∷ []
insert-new eq from [] key value h = refl
insert-new {K} {V} eq from (entry ∷ entries) key value h = by (eq key entry.0) refl (insert-new eq (from + 1) entries key value)
  where
    by : (b : Bool) → eq key entry.0 ≡ b → (position_from (eq key) (from + 1) (keys_of entries) ≡ None → insert_entry eq entries key value ≡ entries ++ (key, value) ∷ [])
        → cond (eq key entry.0) ((entry.0, value) ∷ entries) (entry ∷ insert_entry eq entries key value) ≡ entry ∷ (entries ++ (key, value) ∷ [])
    by true e rest = let some = sym (ap (λ (c : Bool). cond c (Some from) (position_from (eq key) (from + 1) (keys_of entries))) e) ∙ h in absurd cc
    by false e rest =
        ap (λ (c : Bool). cond c ((entry.0, value) ∷ entries) (entry ∷ insert_entry eq entries key value)) e
        ∙ ap (λ (es : List (K × V)). entry ∷ es) (rest (sym (ap (λ (c : Bool). cond c (Some from) (position_from (eq key) (from + 1) (keys_of entries))) e) ∙ h))

-- what stands there is put there
pub set-same : {K V : Type 0} (entries : List (K × V)) (place : ℕ) (value : V) → slice_get (values_of entries) place ≡ Some value → set_value_at entries place value ≡ entries
set-same [] place value h = refl
set-same {K} {V} (entry ∷ entries) zero value h = ap (λ (v : V). (entry.0, v) ∷ entries) (sym (same_Some entry.1 value h))
set-same {K} {V} (entry ∷ entries) (suc place) value h = ap (λ (es : List (K × V)). entry ∷ es) (set-same entries place value h)

-- what holds where something was done that was done
pub on-ok : {A F P : Type 0} (result : Result A F) → IsOk result → OnOk result P → P
on-ok (Ok x) is h = h
on-ok (Err e) is h = absurd cc
