-- Lists that are the same place by place.
use Rattle.std.proofs.Common.{◌≡◌, ℕ, suc, ◌+◌, ◌<◌, ◌==◌, true, List, [], ◌∷◌, map, length, refl, ap, ap₂, arith}
use Rattle.std.specs.Prelude.{slice_get, option_map, Option, Some, None, Ok}
use Rattle.vx_base.proofs.Numbers.{equal-from_yes, equal-yes}
use Rattle.vx_grid.specs.declared.state.State.{State}
use Rattle.vx_grid.specs.declared.state.State.TheVariants.{Marked, Marginal, Clear}
use Rattle.vx_grid.specs.declared.state.Thresholds.{Thresholds}
use Rattle.vx_score.specs.Score.{state_of}
use Rattle.vx_check.specs.Tests.{score_tested, is_same, state_tested}
use Rattle.vx_check.proofs.Orders.{passes-so, so-passes}

same-some : {A : Type 0} (x y : A) → ◌≡◌ {A = Option A} (Some x) (Some y) → x ≡ y
same-some x y e = cc

-- a list with the values of another, and no more
pub same-values : {A B : Type 0} (f : A → B) (xs : List A) (ys : List B) → ((j : ℕ) → j < length xs + 1 → slice_get ys j ≡ option_map f (slice_get xs j)) → ys ≡ map f xs
same-values f [] [] h = refl
same-values f [] (y ∷ ys) h = let first : Some y ≡ None = h 0 (omega arith) in absurd (cc)
same-values f (x ∷ xs) [] h = let first : None ≡ Some (f x) = h 0 (omega arith) in absurd (cc)
same-values f (x ∷ xs) (y ∷ ys) h =
    let first : y ≡ f x = same-some y (f x) (h 0 (omega arith)) in
    let rest : ys ≡ map f xs = same-values f xs ys (λ j less. h (suc j) (omega (arith, less))) in
    ap₂ (λ z zs. z ∷ zs) first rest

-- a score that passes is the counted one
pub score-same : (j : ℕ) (said counted : Option ℕ) → score_tested j said counted ≡ Ok tt → said ≡ counted
score-same j (Some said) (Some counted) h = ap Some (equal-from_yes said counted (passes-so (said == counted) _ h))
score-same j (Some said) None h = absurd (cc)
score-same j None (Some counted) h = absurd (cc)
score-same j None None h = refl

pub same-score : (j : ℕ) (said counted : Option ℕ) → said ≡ counted → score_tested j said counted ≡ Ok tt
same-score j (Some said) (Some counted) h = so-passes (said == counted) _ (equal-yes said counted (same-some said counted h))
same-score j (Some said) None h = absurd (cc)
same-score j None (Some counted) h = absurd (cc)
same-score j None None h = refl

is_same-same : (a b : State) → is_same a b ≡ true → a ≡ b
is_same-same Marked Marked h = refl
is_same-same Marginal Marginal h = refl
is_same-same Clear Clear h = refl
is_same-same Marked Marginal h = absurd (cc)
is_same-same Marked Clear h = absurd (cc)
is_same-same Marginal Marked h = absurd (cc)
is_same-same Marginal Clear h = absurd (cc)
is_same-same Clear Marked h = absurd (cc)
is_same-same Clear Marginal h = absurd (cc)

same-is_same : (a b : State) → a ≡ b → is_same a b ≡ true
same-is_same Marked Marked h = refl
same-is_same Marginal Marginal h = refl
same-is_same Clear Clear h = refl
same-is_same Marked Marginal h = absurd (cc)
same-is_same Marked Clear h = absurd (cc)
same-is_same Marginal Marked h = absurd (cc)
same-is_same Marginal Clear h = absurd (cc)
same-is_same Clear Marked h = absurd (cc)
same-is_same Clear Marginal h = absurd (cc)

-- a state that passes is that of the score
pub state-same : (thresholds : Thresholds) (j : ℕ) (said : Option State) (score : Option ℕ) → state_tested thresholds j said score ≡ Ok tt → said ≡ option_map (λ s. state_of s thresholds) score
state-same thresholds j (Some said) (Some score) h = ap Some (is_same-same said (state_of score thresholds) (passes-so (is_same said (state_of score thresholds)) _ h))
state-same thresholds j (Some said) None h = absurd (cc)
state-same thresholds j None (Some score) h = absurd (cc)
state-same thresholds j None None h = refl

pub same-state : (thresholds : Thresholds) (j : ℕ) (said : Option State) (score : Option ℕ) → said ≡ option_map (λ s. state_of s thresholds) score → state_tested thresholds j said score ≡ Ok tt
same-state thresholds j (Some said) (Some score) h = so-passes (is_same said (state_of score thresholds)) _ (same-is_same said (state_of score thresholds) (same-some said (state_of score thresholds) h))
same-state thresholds j (Some said) None h = absurd (cc)
same-state thresholds j None (Some score) h = absurd (cc)
same-state thresholds j None None h = refl
