-- The count ends: as many rounds as candidates are enough.
use Rattle.std.proofs.Common.{◌≡◌, ◌≢◌, ◌⊎◌, inl, inr, ◌+◌, ◌*◌, ◌<◌, ◌≤◌, ◌==◌, ℕ, zero, suc, Bool, true, false, cond, not, List, [], ◌∷◌, length, map, refl, ap, sym, ◌∙◌, arith}
use Rattle.std.specs.Prelude.{◌&&◌, ◌||◌, Option, Some, None, is_some, option_map, find, filter, nat_lt, count_by}
use Rattle.std.specs.List.{range_with_len}
use Rattle.std.proofs.lemmas.List.{length-map}
use Rattle.std.proofs.lemmas.List.Sums.{sum_by-cons, length-filter}
use Rattle.vx_base.proofs.Booleans.{and-left}
use Rattle.vx_base.proofs.Numbers.{equal-yes, equal-no, below-from_no, below-yes, below-from_yes}
use Rattle.vx_rounds.specs.declared.outcome.Round.{Round}
use Rattle.vx_rounds.specs.declared.outcome.Rounds.{Rounds}
use Rattle.vx_rounds.specs.Rounds.{is_for, total_of, counts_of, winner_of, last_of, out_of, round_of, without, followed, rounds_from, rounds_of}
use Rattle.vx_rounds.specs.Laws.{IsEnded}
use Rattle.vx_rounds.proofs.Counts.{same_or, sum_by-split}
use Rattle.vx_rounds.proofs.Piled.{and_true, and_false}
use Rattle.vx_rounds.proofs.Rounded.{out-stands}

-- how many stand
abbrev many : ℕ → (ℕ → Bool) → ℕ
many n stands = count_by stands (range_with_len 0 n)

none_before : (out a n : ℕ) → out < a → count_by (λ c. c == out) (range_with_len a n) ≡ 0
none_before out a zero h = refl
none_before out a (suc n) h =
    let here = ap {B = ℕ} (λ (b : Bool). cond b 1 0) (equal-no a out (λ e. omega arith)) in
    omega (arith, sum_by-cons (λ (c : ℕ). cond (c == out) 1 0) a (range_with_len (a + 1) n), here, none_before out (a + 1) n (omega arith))

once_step : (out a n : ℕ) → (a ≡ out) ⊎ (a ≢ out) → a ≤ out → out < a + suc n →
    (a + 1 ≤ out → out < (a + 1) + n → count_by (λ c. c == out) (range_with_len (a + 1) n) ≡ 1) →
    count_by (λ c. c == out) (range_with_len a (suc n)) ≡ 1
once_step out a n (inl e) low high later =
    let here = ap {B = ℕ} (λ (b : Bool). cond b 1 0) (equal-yes a out e) in
    omega (arith, sum_by-cons (λ (c : ℕ). cond (c == out) 1 0) a (range_with_len (a + 1) n), here, none_before out (a + 1) n (omega arith))
once_step out a n (inr e) low high later =
    let here = ap {B = ℕ} (λ (b : Bool). cond b 1 0) (equal-no a out e) in
    let further : a + 1 ≤ out = omega (arith, e) in
    let within : out < (a + 1) + n = omega arith in
    omega (arith, sum_by-cons (λ (c : ℕ). cond (c == out) 1 0) a (range_with_len (a + 1) n), here, later further within)

-- a number is met once among those that it is one of
once : (out a n : ℕ) → a ≤ out → out < a + n → count_by (λ c. c == out) (range_with_len a n) ≡ 1
once out a zero low high = absurd (omega arith)
once out a (suc n) low high = once_step out a n (same_or a out) low high (once out (a + 1) n)

one_fewer : (stands : ℕ → Bool) (out c : ℕ) → stands out ≡ true → (c ≡ out) ⊎ (c ≢ out) →
    cond (without stands out c) 1 0 + cond (c == out) 1 0 ≡ cond (stands c) 1 0
one_fewer stands out c h (inl e) =
    let a = ap {B = ℕ} (λ (b : Bool). cond b 1 0) (and_false (stands c) (not (c == out)) (ap not (equal-yes c out e))) in
    let b = ap {B = ℕ} (λ (b : Bool). cond b 1 0) (equal-yes c out e) in
    let d = ap {B = ℕ} (λ (b : Bool). cond b 1 0) (ap stands e ∙ h) in
    omega (arith, a, b, d)
one_fewer stands out c h (inr e) =
    let a = ap {B = ℕ} (λ (b : Bool). cond b 1 0) (and_true (stands c) (not (c == out)) (ap not (equal-no c out e))) in
    let b = ap {B = ℕ} (λ (b : Bool). cond b 1 0) (equal-no c out e) in
    omega (arith, a, b)

fewer : (n : ℕ) (stands : ℕ → Bool) (out : ℕ) → stands out ≡ true → out < n → many n (without stands out) + 1 ≡ many n stands
fewer n stands out h within =
    let parts = sum_by-split (λ (c : ℕ). cond (without stands out c) 1 0) (λ (c : ℕ). cond (c == out) 1 0) (λ (c : ℕ). cond (stands c) 1 0)
    (λ c. one_fewer stands out c h (same_or c out)) (range_with_len 0 n) in
    let one = once out 0 n (omega arith) (omega arith) in
    omega (arith, parts, one)

some_both : (t w : Bool) (o : Option ℕ) (out : ℕ) → cond (t || w) None o ≡ Some out → (t ≡ false) × (w ≡ false)
some_both true w o out h = absurd cc
some_both false true o out h = absurd cc
some_both false false o out h = (refl, refl)

lost : (b : Bool) (x : ℕ × ℕ) → is_some (option_map (λ (count : ℕ × ℕ). count.0) (cond b (Some x) None)) ≡ false → b ≡ false
lost true x h = absurd cc
lost false x h = refl

not_won : (x : ℕ × ℕ) → (total_of (x ∷ []) == 0) ≡ false → is_some (winner_of (x ∷ [])) ≡ false → ⊥
not_won x counted no_winner =
    let le = below-from_no (total_of (x ∷ [])) (2 * x.1) (lost (nat_lt (total_of (x ∷ [])) (2 * x.1)) x no_winner) in
    let all : total_of (x ∷ []) ≡ x.1 = omega arith in
    let nothing : total_of (x ∷ []) ≡ 0 = omega (arith, le, all) in
    let t = equal-yes (total_of (x ∷ [])) 0 nothing in
    absurd (cc (t, counted))

one_never : (x : ℕ × ℕ) (out : ℕ) → out_of (x ∷ []) ≡ Some out → ⊥
one_never x out h =
    let both = some_both (total_of (x ∷ []) == 0) (is_some (winner_of (x ∷ []))) (last_of (x ∷ [])) out h in
    not_won x both.0 both.1

-- where a candidate goes out another stands
out_two : (counts : List (ℕ × ℕ)) (out : ℕ) → out_of counts ≡ Some out → 2 ≤ length counts
out_two [] out h = absurd cc
out_two (x ∷ []) out h = absurd (one_never x out h)
out_two (x ∷ y ∷ rest) out h = omega arith

two_stand : (n : ℕ) (stands : ℕ → Bool) (rankings : List (List ℕ)) (out : ℕ) → out_of (counts_of n stands rankings) ≡ Some out → 2 ≤ many n stands
two_stand n stands rankings out h =
    let two = out_two (counts_of n stands rankings) out h in
    let a = length-map {B = ℕ × ℕ} (filter stands (range_with_len 0 n)) (λ (c : ℕ). (c, count_by (is_for stands c) rankings)) in
    let b = length-filter stands (range_with_len 0 n) in
    omega (arith, two, a, b)

ended_more : (round : Round) (later : List Round) → is_some round.out ≡ true → IsEnded later → IsEnded (round ∷ later)
ended_more round [] h k = absurd k
ended_more round (x ∷ xs) h k = (h, k)

ended_step : (round : Round) (further : ℕ → Rounds) (o : Option ℕ) → round.out ≡ o → ((out : ℕ) → o ≡ Some out → IsEnded (further out).rounds) →
    IsEnded (followed round further o).rounds
ended_step round further None e ih = e
ended_step round further (Some out) e ih = ended_more round (further out).rounds (ap (λ (o : Option ℕ). is_some o) e) (ih out refl)

ended-from : (fuel n : ℕ) (stands : ℕ → Bool) (rankings : List (List ℕ)) → ((c : ℕ) → stands c ≡ true → c < n) → 0 < many n stands → many n stands ≤ fuel →
    IsEnded (rounds_from fuel n stands rankings).rounds
unfolding rounds_from
ended-from zero n stands rankings low any high = absurd (omega (arith, any, high))
ended-from (suc more) n stands rankings low any high =
    ended_step (round_of n stands rankings) (λ out. rounds_from more n (without stands out) rankings) (out_of (counts_of n stands rankings)) refl
    (λ out h.
    let stood = out-stands n stands rankings out h in
    let less = fewer n stands out stood (low out stood) in
    let two = two_stand n stands rankings out h in
    ended-from more n (without stands out) rankings (λ c k. low c (and-left (stands c) (not (c == out)) k)) (omega (arith, less, two))
    (omega (arith, less, high)))

all_low : (a k n : ℕ) → a + k ≤ n → count_by (λ c. nat_lt c n) (range_with_len a k) ≡ k
all_low a zero n h = refl
all_low a (suc k) n h =
    let here = ap {B = ℕ} (λ (b : Bool). cond b 1 0) (below-yes a n (omega arith)) in
    omega (arith, sum_by-cons (λ (c : ℕ). cond (nat_lt c n) 1 0) a (range_with_len (a + 1) k), here, all_low (a + 1) k n (omega arith))

pub count-ends : (n : ℕ) (rankings : List (List ℕ)) → 0 < n → IsEnded (rounds_of n rankings).rounds
count-ends n rankings any =
    let all = all_low 0 n n (omega arith) in
    ended-from n n (λ (c : ℕ). nat_lt c n) rankings (λ c h. below-from_yes c n h) (omega (arith, all, any)) (omega (arith, all))
