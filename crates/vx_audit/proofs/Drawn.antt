-- Which places are drawn.
use Rattle.std.proofs.Common.{◌≡◌, ◌⊎◌, inl, inr, ◌≢◌, ℕ, zero, suc, ◌+◌, ◌%◌, ◌<◌, ◌==◌, ◌||◌, Bool, true, false, cond, List, [], ◌∷◌, ◌++◌, length, get_or, set, refl, ap, sym, ◌∙◌, arith}
use Rattle.std.specs.Prelude.{All, filter, map}
use Rattle.std.specs.List.{list_any, range_with_len}
use Rattle.std.proofs.lemmas.Bool.{cases_eq}
use Rattle.std.proofs.lemmas.Nat.{mod_below}
use Rattle.std.proofs.lemmas.List.{get_or-set_same, get_or-set_other}
use Rattle.std.proofs.lemmas.List.Elements.{All-nil, All-cons, All-filter}
use Rattle.std.proofs.lemmas.List.Folds.{list_any-append}
use Rattle.vx_base.proofs.Numbers.{equal-yes, equal-from_yes}
use Rattle.vx_base.proofs.Ranges.{range-more}
use Rattle.vx_audit.specs.Sample.{draws, is_drawn, where_held, word_of}
use Rattle.vx_audit.specs.Walk.{by_place}

or-none : (b : Bool) → (b || false) ≡ b
or-none true = refl
or-none false = refl

or-true : (b : Bool) → (b || true) ≡ true
or-true true = refl
or-true false = refl

-- one word more
drawn-more : (seed : List ℕ) (n count place : ℕ) → is_drawn seed (n + 1) count place ≡ (is_drawn seed n count place || draws seed count place n)
drawn-more seed n count place =
    let at : 0 + n ≡ n = omega arith in
    ap (list_any (draws seed count place)) (range-more 0 n)
    ∙ list_any-append (draws seed count place) (range_with_len 0 n) ((0 + n) ∷ [])
    ∙ ap (λ b. is_drawn seed n count place || b) (or-none (draws seed count place (0 + n)) ∙ ap (draws seed count place) at)

differs : (m n : ℕ) → m ≢ n → (m == n) ≡ false
differs m n apart = by (m == n) refl
  where
    by : (b : Bool) → (m == n) ≡ b → (m == n) ≡ false
    by true e = absurd (apart (equal-from_yes m n e))
    by false e = e

-- the place that a word draws is told, and all others stay as they were
pub one-drawn : (seed : List ℕ) (n count word : ℕ) (drawn : List Bool) → word ≡ word_of seed n → length drawn ≡ count → word % count < count
    → ((place : ℕ) → place < count → get_or drawn place false ≡ is_drawn seed n count place)
    → (place : ℕ) → place < count → get_or (set drawn (word % count) true) place false ≡ is_drawn seed (n + 1) count place
one-drawn seed n count word drawn is sized within before place inside = by (cases_eq place (word % count))
  where
    by : (place ≡ word % count) ⊎ (place ≢ word % count) → get_or (set drawn (word % count) true) place false ≡ is_drawn seed (n + 1) count place
    by (inl same) =
        let here : draws seed count place n ≡ true = equal-yes place (word_of seed n % count) (same ∙ ap (λ w. w % count) is) in
        ap (λ k. get_or (set drawn (word % count) true) k false) same
        ∙ get_or-set_same drawn (word % count) true false (omega (arith, within, sized))
        ∙ sym (drawn-more seed n count place ∙ ap (λ b. is_drawn seed n count place || b) here ∙ or-true (is_drawn seed n count place))
    by (inr other) =
        let elsewhere : draws seed count place n ≡ false = ap (λ w. place == w % count) (sym is) ∙ differs place (word % count) other in
        get_or-set_other drawn (word % count) place true false other
        ∙ before place inside
        ∙ sym (drawn-more seed n count place ∙ ap (λ b. is_drawn seed n count place || b) elsewhere ∙ or-none (is_drawn seed n count place))

-- the places that are told
pub held-filter : (test : ℕ → Bool) (n : ℕ) (drawn : List Bool) → ((i : ℕ) → i < length drawn → get_or drawn i false ≡ test (n + i))
    → by_place where_held n drawn ≡ filter test (range_with_len n (length drawn))
held-filter test n [] told = refl
held-filter test n (held ∷ drawn) told =
    let at : n + 0 ≡ n = omega arith in
    by held (test n) (told 0 (omega arith) ∙ ap test at)
    (held-filter test (n + 1) drawn (λ i inside. let on : n + suc i ≡ n + 1 + i = omega arith in told (suc i) (omega (arith, inside)) ∙ ap test on))
  where
    by : (b c : Bool) → b ≡ c → by_place where_held (n + 1) drawn ≡ filter test (range_with_len (n + 1) (length drawn))
        → where_held n b ++ by_place where_held (n + 1) drawn
        ≡ cond c (n ∷ filter test (range_with_len (n + 1) (length drawn))) (filter test (range_with_len (n + 1) (length drawn)))
    by true true e more = ap (λ (places : List ℕ). n ∷ places) more
    by true false e more = absurd cc
    by false true e more = absurd cc
    by false false e more = more

range-below : (a n : ℕ) (end : ℕ) → a + n ≡ end → All (λ k. k < end) (range_with_len a n)
range-below a zero end is = All-nil (λ k. k < end)
range-below a (suc n) end is = All-cons (λ k. k < end) a (range_with_len (a + 1) n) (omega (arith, is)) (range-below (a + 1) n end (omega (arith, is)))

pub filter-below : (test : ℕ → Bool) (n : ℕ) → All (λ k. k < n) (filter test (range_with_len 0 n))
filter-below test n = All-filter test (λ k. k < n) (range_with_len 0 n) (range-below 0 n n (omega arith))

-- what is left of numbers by a number lies below it
pub rest-below : (f : ℕ → ℕ) (count : ℕ) → 0 < count → (words : List ℕ) → All (λ k. k < count) (map (λ word. f word % count) words)
rest-below f count some [] = All-nil (λ k. k < count)
rest-below f count some (word ∷ words) =
    All-cons (λ k. k < count) (f word % count) (map (λ other. f other % count) words) (mod_below (f word) count some) (rest-below f count some words)
