-- The places of lines by their ballots and contests.
use Rattle.std.proofs.Common.{◌≡◌, ℕ, suc, ◌+◌, ◌<◌, ◌^◌, ◌==◌, ◌&&◌, ◌||◌, Bool, true, false, cond, List, [], ◌∷◌, ◌++◌, length, map, Some, None, refl, ap, ap₂, sym, ◌∙◌, arith}
use Rattle.std.specs.Prelude.{slice_get, Contains, is_some}
use Rattle.std.specs.List.{list_any, position_from, find}
use Rattle.std.specs.BTreeMap.{BTreeMap, Updates, get, is_at}
use Rattle.std.specs.BTreeMap.Range.{entries_between, range_contains}
use Rattle.std.specs.Map.{lookup}
use Rattle.std.specs.Ordering.{nat_cmp, ordering_then, is_eq}
use Rattle.std.specs.declared.ops.Bound.TheVariants.{Included}
use Rattle.std.proofs.lemmas.Bool.Decides.{nat_tests}
use Rattle.std.proofs.lemmas.List.Elements.{Contains-append_right}
use Rattle.vx_base.proofs.Booleans.{and-left, and-right}
use Rattle.vx_base.proofs.Numbers.{equal-from_yes}
use Rattle.vx_audit.specs.declared.hand.HandLine.{HandLine}
use Rattle.vx_audit.specs.Hand.{is_for}
use Rattle.vx_audit.specs.Places.{key_cmp, place_for, AreFound}

module _ {X : Type 0} (p : X → Bool) where
  pub some-position : (n : ℕ) (xs : List X) → is_some (position_from p n xs) ≡ list_any p xs
  some-position n [] = refl
  some-position n (x ∷ xs) = by (p x) (some-position (n + 1) xs)
    where
      by : (b : Bool) → is_some (position_from p (n + 1) xs) ≡ list_any p xs → is_some (cond b (Some n) (position_from p (n + 1) xs)) ≡ (b || list_any p xs)
      by true rest = refl
      by false rest = rest

  pub none-position : (n : ℕ) (xs : List X) → position_from p n xs ≡ None → find p xs ≡ None
  none-position n [] e = refl
  none-position n (x ∷ xs) e = by (p x) refl e (none-position (n + 1) xs)
    where
      by : (b : Bool) → p x ≡ b → cond b (Some n) (position_from p (n + 1) xs) ≡ None → (position_from p (n + 1) xs ≡ None → find p xs ≡ None)
          → find p (x ∷ xs) ≡ None
      by true is f rest = absurd cc
      by false is f rest = rw is (rest f)

  -- what stands at a place is what is found first
  pub at-position : (n : ℕ) (xs : List X) (m : ℕ) → position_from p n xs ≡ Some m → (k : ℕ) × (m ≡ n + k) × (k < length xs) × (find p xs ≡ slice_get xs k)
  at-position n [] m e = absurd cc
  at-position n (x ∷ xs) m e = by (p x) refl e (at-position (n + 1) xs m)
    where
      by : (b : Bool) → p x ≡ b → cond b (Some n) (position_from p (n + 1) xs) ≡ Some m
          → (position_from p (n + 1) xs ≡ Some m → (k : ℕ) × (m ≡ n + 1 + k) × (k < length xs) × (find p xs ≡ slice_get xs k))
          → (k : ℕ) × (m ≡ n + k) × (k < length (x ∷ xs)) × (find p (x ∷ xs) ≡ slice_get (x ∷ xs) k)
      by true is f rest = let same : n ≡ m = cc in (0, omega (arith, same), omega arith, rw is refl)
      by false is f rest = let h = rest f in (suc h.0, omega (arith, h.1), omega (arith, h.2), rw is h.3)

  position-other : (n : ℕ) (xs : List X) (x : X) → p x ≡ false → position_from p n (xs ++ x ∷ []) ≡ position_from p n xs
  position-other n [] x e = rw e refl
  position-other n (y ∷ xs) x e = ap (cond (p y) (Some n)) (position-other (n + 1) xs x e)

  position-new : (n : ℕ) (xs : List X) (x : X) → list_any p xs ≡ false → p x ≡ true → position_from p n (xs ++ x ∷ []) ≡ Some (n + length xs)
  position-new n [] x none e = let at : n ≡ n + 0 = omega arith in rw e (ap Some at)
  position-new n (y ∷ xs) x none e = by (p y) refl none (position-new (n + 1) xs x)
    where
      by : (b : Bool) → p y ≡ b → (b || list_any p xs) ≡ false → (list_any p xs ≡ false → p x ≡ true → position_from p (n + 1) (xs ++ x ∷ []) ≡ Some (n + 1 + length xs))
          → position_from p n ((y ∷ xs) ++ x ∷ []) ≡ Some (n + length (y ∷ xs))
      by true is f rest = absurd cc
      by false is f rest = let at : n + 1 + length xs ≡ n + suc (length xs) = omega arith in rw is (rest f e ∙ ap Some at)

keys-match : (a b c d : ℕ) → is_eq (ordering_then (nat_cmp a c) (nat_cmp b d)) ≡ (c == a && d == b)
keys-match a b c d = grind (arith, nat_tests)

-- one line more is found
pub found-push : (lines : List HandLine) (line : HandLine) (old new : BTreeMap (ℕ × ℕ) ℕ) (place : ℕ) → place ≡ length lines → AreFound lines old
    → Updates key_cmp old new (line.ballot, line.contest) (Some place) → list_any (is_for line.ballot line.contest) lines ≡ false
    → AreFound (lines ++ line ∷ []) new
found-push lines line old new place is found updates none = record { at = at }
  where
    at : (key : ℕ × ℕ) → get key_cmp new key ≡ place_for (lines ++ line ∷ []) key
    at key = updates.0 key ∙ by (is_eq (key_cmp (line.ballot, line.contest) key)) refl
      where
        by : (b : Bool) → is_eq (key_cmp (line.ballot, line.contest) key) ≡ b → cond b (Some place) (get key_cmp old key) ≡ place_for (lines ++ line ∷ []) key
        by true e =
            let matches : is_for key.0 key.1 line ≡ true = sym (keys-match line.ballot line.contest key.0 key.1) ∙ e in
            let first = equal-from_yes key.0 line.ballot (and-left _ _ matches) in
            let second = equal-from_yes key.1 line.contest (and-right (key.0 == line.ballot) _ matches) in
            let at : length lines ≡ 0 + length lines = omega arith in
            ap Some (is ∙ at) ∙ sym (position-new (is_for key.0 key.1) 0 lines line
            (ap₂ (λ (b c : ℕ). list_any (is_for b c) lines) first second ∙ none) matches)
        by false e =
            let differs : is_for key.0 key.1 line ≡ false = sym (keys-match line.ballot line.contest key.0 key.1) ∙ e in
            found.at key ∙ sym (position-other (is_for key.0 key.1) 0 lines line differs)

in-range : (ballot contest a b : ℕ) → contest < 2 ^ 32 → is_eq (ordering_then (nat_cmp ballot a) (nat_cmp contest b)) ≡ true
    → range_contains key_cmp (Included (ballot, 0)) (Included (ballot, 4294967295)) (a, b) ≡ true
in-range ballot contest a b lt e = grind (arith, nat_tests)

-- a contest of which there is a line is among the keys of its ballot
pub contest-found : (ballot contest : ℕ) → contest < 2 ^ 32 → (entries : List ((ℕ × ℕ) × ℕ))
    → is_some (lookup (is_at (key_cmp (ballot, contest))) entries) ≡ true
    → Contains (map (λ (e : (ℕ × ℕ) × ℕ). e.0.1) (entries_between key_cmp (Included (ballot, 0)) (Included (ballot, 4294967295)) entries)) contest
contest-found ballot contest lt [] e = absurd cc
contest-found ballot contest lt (one ∷ entries) e =
    by (is_at (key_cmp (ballot, contest)) one.0) (range_contains key_cmp (Included (ballot, 0)) (Included (ballot, 4294967295)) one.0) refl refl e
    (contest-found ballot contest lt entries)
  where
    rest : List ((ℕ × ℕ) × ℕ)
    rest = entries_between key_cmp (Included (ballot, 0)) (Included (ballot, 4294967295)) entries

    by : (b c : Bool) → is_at (key_cmp (ballot, contest)) one.0 ≡ b → range_contains key_cmp (Included (ballot, 0)) (Included (ballot, 4294967295)) one.0 ≡ c
        → is_some (cond b (Some one.1) (lookup (is_at (key_cmp (ballot, contest))) entries)) ≡ true
        → (is_some (lookup (is_at (key_cmp (ballot, contest))) entries) ≡ true → Contains (map (λ (e : (ℕ × ℕ) × ℕ). e.0.1) rest) contest)
        → Contains (map (λ (e : (ℕ × ℕ) × ℕ). e.0.1) (cond c (one ∷ rest) rest)) contest
    by true true is in' f found =
        let same : one.0.1 ≡ contest =
        equal-from_yes one.0.1 contest (and-right (one.0.0 == ballot) _ (sym (keys-match ballot contest one.0.0 one.0.1) ∙ is)) in
        (0, omega arith, same)
    by true false is in' f found =
        absurd (let within = in-range ballot contest one.0.0 one.0.1 lt is in cc)
    by false true is in' f found =
        Contains-append_right (one.0.1 ∷ []) (map (λ (e : (ℕ × ℕ) × ℕ). e.0.1) rest) contest (found f)
    by false false is in' f found = found f

-- some contest among those is told by its number
pub any-map : {X : Type 0} (f : X → ℕ) (n : ℕ) (xs : List X) → list_any (λ (x : X). n == f x) xs ≡ list_any (λ m. n == m) (map f xs)
any-map f n [] = refl
any-map f n (x ∷ xs) = ap (λ b. (n == f x) || b) (any-map f n xs)
