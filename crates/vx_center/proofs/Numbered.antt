-- Options by their numbers, and decisions of one contest.
use Rattle.std.proofs.Common.{◌≡◌, ℕ, zero, suc, ◌+◌, ◌<◌, ◌≤◌, Bool, true, false, cond, ◌==◌, List, [], ◌∷◌, ◌++◌, refl, ap, ap₂, ◌∙◌, arith}
use Rattle.std.specs.Prelude.{◌||◌, Option, Some, None, nat_eq, slice_get}
use Rattle.std.specs.List.{list_any}
use Rattle.vx_base.proofs.Booleans.{and-both}
use Rattle.vx_base.proofs.Numbers.{equal-yes, equal-no, at_most-yes}
use Rattle.vx_grid.specs.declared.state.State.{State}
use Rattle.vx_events.specs.Ascending.{ascends_from}
use Rattle.vx_center.specs.declared.decided.Decided.{Decided}
use Rattle.vx_center.specs.Decisions.{decisions_on}
use Rattle.vx_rules.specs.Reasons.{is_marked}
use Rattle.vx_center.specs.Finals.{options_from, marked_options}
use Rattle.vx_center.specs.Waiting.{is_decided}

-- a test of what stands at a place, if anything does
abbrev pub passes : (State → Bool) → Option State → Bool
passes p None = false
passes p (Some state) = p state

pub any-behind : (p : State → Bool) (option number : ℕ) (states : List State) → option < number → list_any (nat_eq option) (options_from p number states) ≡ false
any-behind p option number [] less = refl
any-behind p option number (state ∷ states) less = by (p state) (any-behind p option (number + 1) states (omega arith))
  where
    by : (b : Bool) → list_any (nat_eq option) (options_from p (number + 1) states) ≡ false
        → list_any (nat_eq option) (cond b (number ∷ options_from p (number + 1) states) (options_from p (number + 1) states)) ≡ false
    by true rest = ap₂ (λ (a b : Bool). a || b) (equal-no option number (λ e. absurd (omega arith))) rest
    by false rest = rest

-- an option is among those that pass where it passes
pub any-at : (p : State → Bool) (number k : ℕ) (states : List State) → list_any (nat_eq (number + k)) (options_from p number states) ≡ passes p (slice_get states k)
any-at p number k [] = refl
any-at p number zero (state ∷ states) = by (p state)
  where
    behind : list_any (nat_eq (number + 0)) (options_from p (number + 1) states) ≡ false
    behind = any-behind p (number + 0) (number + 1) states (omega arith)

    by : (b : Bool) → list_any (nat_eq (number + 0)) (cond b (number ∷ options_from p (number + 1) states) (options_from p (number + 1) states)) ≡ b
    by true = ap (λ (a : Bool). a || list_any (nat_eq (number + 0)) (options_from p (number + 1) states)) (equal-yes (number + 0) number (omega arith))
    by false = behind
any-at p number (suc k) (state ∷ states) =
    let same : number + suc k ≡ number + 1 + k = omega arith in
    by (p state) (ap (λ n. list_any (nat_eq n) (options_from p (number + 1) states)) same ∙ any-at p (number + 1) k states)
  where
    by : (b : Bool) → list_any (nat_eq (number + suc k)) (options_from p (number + 1) states) ≡ passes p (slice_get states k) → list_any (nat_eq (number + suc k)) (cond b (number ∷ options_from p (number + 1) states) (options_from p (number + 1) states)) ≡ passes p (slice_get states k)
    by true rest = ap (λ (a : Bool). a || list_any (nat_eq (number + suc k)) (options_from p (number + 1) states)) (equal-no (number + suc k) number (λ e. absurd (omega arith))) ∙ rest
    by false rest = rest

-- the options that pass ascend
pub options-ascend : (p : State → Bool) (least number : ℕ) (states : List State) → least ≤ number → ascends_from least (options_from p number states) ≡ true
options-ascend p least number [] h = refl
options-ascend p least number (state ∷ states) h =
    by (p state) (options-ascend p least (number + 1) states (omega arith)) (options-ascend p (number + 1) (number + 1) states (omega arith))
  where
    by : (b : Bool) → ascends_from least (options_from p (number + 1) states) ≡ true → ascends_from (number + 1) (options_from p (number + 1) states) ≡ true
        → ascends_from least (cond b (number ∷ options_from p (number + 1) states) (options_from p (number + 1) states)) ≡ true
    by true without rest = and-both _ _ (at_most-yes least number h) rest
    by false without rest = without

-- something was decided of a contest where one of the decisions is of it
pub decided-any : (contest : ℕ) (decided : List Decided) → is_decided (decisions_on contest decided) ≡ list_any (λ (one : Decided). one.contest == contest) decided
decided-any contest [] = refl
decided-any contest (one ∷ decided) = by (one.contest == contest) (decided-any contest decided)
  where
    by : (b : Bool) → is_decided (decisions_on contest decided) ≡ list_any (λ (one : Decided). one.contest == contest) decided
        → is_decided (cond b (one.decision ∷ []) [] ++ decisions_on contest decided) ≡ (b || list_any (λ (one : Decided). one.contest == contest) decided)
    by true rest = refl
    by false rest = rest

-- an option is among the marked ones where it was read as marked
pub option-marked : (states : List State) (option : ℕ) → list_any (nat_eq option) (marked_options states) ≡ passes is_marked (slice_get states option)
option-marked states option =
    let same : option ≡ 0 + option = omega arith in
    ap (λ n. list_any (nat_eq n) (options_from is_marked 0 states)) same ∙ any-at is_marked 0 option states
