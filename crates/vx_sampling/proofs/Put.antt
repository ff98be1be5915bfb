-- Of which ballots there are lines, one line more at a time.
use Rattle.std.proofs.Common.{◌≡◌, ◌⊎◌, inl, inr, ◌≢◌, ℕ, ◌<◌, ◌≤◌, ◌==◌, ◌||◌, Bool, true, false, List, length, get_or, set, refl, ap, sym, ◌∙◌, arith}
use Rattle.std.proofs.lemmas.Bool.{cases_eq}
use Rattle.std.proofs.lemmas.List.{get_or-set_other}
use Rattle.std.proofs.lemmas.Grind.{get_or-set_at}
use Rattle.vx_base.proofs.Numbers.{equal-yes, equal-no}

or-none : (b : Bool) → (b || false) ≡ b
or-none true = refl
or-none false = refl

or-true : (b : Bool) → (b || true) ≡ true
or-true true = refl
or-true false = refl

-- a place that is another is as it was
pub put_other : (found : List Bool) (at place : ℕ) → place ≢ at → get_or found place false ≡ (get_or found place false || place == at)
put_other found at place other = sym (ap (λ b. get_or found place false || b) (equal-no place at other) ∙ or-none (get_or found place false))

-- the same where what is put lies behind all places
pub put_past : (found : List Bool) (at place : ℕ) → length found ≤ at → place < length found
    → get_or found place false ≡ (get_or found place false || place == at)
put_past found at place past within = put_other found at place (λ (same : place ≡ at). omega (arith, same, past, within))

-- a place that is put is found, and the others are as they were
pub put_found : (found : List Bool) (at place : ℕ) → place < length found
    → get_or (set found at true) place false ≡ (get_or found place false || place == at)
put_found found at place within = by (cases_eq place at)
  where
    by : (place ≡ at) ⊎ (place ≢ at) → get_or (set found at true) place false ≡ (get_or found place false || place == at)
    by (inl same) =
        get_or-set_at found at place true false same (omega (arith, within, same))
        ∙ sym (ap (λ b. get_or found place false || b) (equal-yes place at same) ∙ or-true (get_or found place false))
    by (inr other) = get_or-set_other found at place true false other ∙ put_other found at place other
