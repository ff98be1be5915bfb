-- The least count, and the last candidate that has it.
use Rattle.std.proofs.Common.{◌≡◌, ◌⊎◌, inl, inr, ℕ, ◌<◌, ◌≤◌, ◌==◌, Bool, true, false, cond, List, [], ◌∷◌, length, take, get_or, refl, ap, sym, ◌∙◌, subst, arith}
use mathlib.Core.List.{reverse, reverse-cons}
use Rattle.std.specs.Prelude.{◌||◌, find, nat_le, Option, Some, None, All, Any, option_map, is_some}
use Rattle.std.proofs.lemmas.List.{take_all}
use Rattle.std.proofs.lemmas.List.Elements.{All-push, All-nil, All-head, All-tail}
use Rattle.std.proofs.lemmas.List.Sums.{list_all-from_AllPass, AllPass-from_list_all}
use Rattle.vx_base.proofs.Booleans.{same-bool}
use Rattle.vx_base.proofs.Numbers.{equal-yes, equal-from_yes, at_most-yes, at_most-from_yes}
use Rattle.vx_rounds.specs.Rounds.{total_of, winner_of, is_least, last_of, out_of}

-- a fact of each element holds of each in any order
pub All-reversed : {X : Type 0} (P : X → Type 0) (xs : List X) → All P xs → All P (reverse xs)
All-reversed P [] each = All-nil P
All-reversed {X = X} P (x ∷ xs) each =
    subst (λ (ys : List X). All P ys) (sym (reverse-cons x xs)) (All-push P (reverse xs) x (All-reversed P xs (All-tail P x xs each)) (All-head P x xs each))

-- the first that passes one of two tests that say the same of each
pub find-same : {X : Type 0} (p q : X → Bool) (xs : List X) → All (λ (x : X). p x ≡ q x) xs → find p xs ≡ find q xs
find-same p q [] each = refl
find-same {X = X} p q (x ∷ xs) each =
    ap (λ (b : Bool). cond b (Some x) (find p xs)) (All-head (λ (y : X). p y ≡ q y) x xs each)
    ∙ ap (λ (o : Option X). cond (q x) (Some x) o) (find-same p q xs (All-tail (λ (y : X). p y ≡ q y) x xs each))

-- one is met where one was met on the way, or where the most is the least
pub met-at : (counts : List (ℕ × ℕ)) (most least i : ℕ) → length counts ≤ i → All (λ count. least ≤ count.1) (take i counts) →
    (least ≡ most) ⊎ Any (λ count. count.1 ≡ least) (take i counts) → All (λ count. count.1 ≤ most) counts → 0 < length counts →
    Any (λ count. count.1 ≡ least) counts
met-at counts most least i past less (inr any) high some_ = subst (λ (cs : List (ℕ × ℕ)). Any (λ count. count.1 ≡ least) cs) (take_all i counts past) any
met-at counts most least i past less (inl e) high some_ =
    let low : All (λ (count : ℕ × ℕ). least ≤ count.1) counts =
    subst (λ (cs : List (ℕ × ℕ)). All (λ (count : ℕ × ℕ). least ≤ count.1) cs) (take_all i counts past) less in
    let a = low 0 (0, 0) some_ in
    let b = high 0 (0, 0) some_ in
    first counts least some_ (omega (arith, a, b, e))
  where
    first : (cs : List (ℕ × ℕ)) (least : ℕ) → 0 < length cs → (get_or cs 0 (0, 0)).1 ≡ least → Any (λ count. count.1 ≡ least) cs
    first [] least h is = absurd (omega arith)
    first (c ∷ cs) least h is = (0, c, h, refl, is)

-- a count is the least one exactly where it is none's more
least_same : (counts : List (ℕ × ℕ)) (least : ℕ) → All (λ (count : ℕ × ℕ). least ≤ count.1) counts → Any (λ (count : ℕ × ℕ). count.1 ≡ least) counts →
    (x : ℕ × ℕ) → least ≤ x.1 → (x.1 == least) ≡ is_least counts x
least_same counts least low (k, y, within, at, is) x above =
    same-bool (x.1 == least) (is_least counts x)
    (λ h. list_all-from_AllPass (λ (other : ℕ × ℕ). nat_le x.1 other.1) counts
    (λ j d inside. at_most-yes x.1 (get_or counts j d).1 (let e = equal-from_yes x.1 least h in let l = low j d inside in omega (arith, e, l))))
    (λ h. let pass = AllPass-from_list_all (λ (other : ℕ × ℕ). nat_le x.1 other.1) counts h k y within in
    let le = at_most-from_yes x.1 (get_or counts k y).1 pass in
    let same : (get_or counts k y).1 ≡ y.1 = ap (λ (c : ℕ × ℕ). c.1) at in
    equal-yes x.1 least (omega (arith, le, same, is, above)))

-- the last with the least count
pub last-is : (counts : List (ℕ × ℕ)) (least : ℕ) → All (λ (count : ℕ × ℕ). least ≤ count.1) counts → Any (λ (count : ℕ × ℕ). count.1 ≡ least) counts →
    option_map (λ (count : ℕ × ℕ). count.0) (find (λ (count : ℕ × ℕ). count.1 == least) (reverse counts)) ≡ last_of counts
last-is counts least low met =
    ap (λ (o : Option (ℕ × ℕ)). option_map (λ (count : ℕ × ℕ). count.0) o)
    (find-same (λ (count : ℕ × ℕ). count.1 == least) (is_least counts) (reverse counts)
    (All-reversed (λ (x : ℕ × ℕ). (x.1 == least) ≡ is_least counts x) counts
    (λ k d inside. least_same counts least low met (get_or counts k d) (low k d inside))))

-- some count where the total isn't nothing
pub some-counts : (counts : List (ℕ × ℕ)) → (total_of counts ≡ 0 → ⊥) → 0 < length counts
some-counts [] h = absurd (h refl)
some-counts (c ∷ cs) h = omega arith

-- where ballots count and no one wins, the last with the least count goes out
pub out-last : (counts : List (ℕ × ℕ)) → (total_of counts == 0) ≡ false → is_some (winner_of counts) ≡ false → out_of counts ≡ last_of counts
out-last counts e f = ap (λ (b : Bool). cond b None (last_of counts)) (or_none (total_of counts == 0) (is_some (winner_of counts)) e f)
  where
    or_none : (a b : Bool) → a ≡ false → b ≡ false → a || b ≡ false
    or_none true b e f = e
    or_none false b e f = f
