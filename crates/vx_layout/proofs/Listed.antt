-- The plans of all cards as a list are those of which each is its card's plan.
use Rattle.std.proofs.Common.{◌≡◌, ℕ, zero, suc, ◌+◌, ◌<◌, List, [], ◌∷◌, length, get_or, Ok, Err, refl, ap, subst, ◌∙◌, arith}
use Rattle.std.specs.Prelude.{Result}
use Rattle.std.specs.List.{range_with_len}
use Rattle.vx_base.specs.Results.{◌>>=◌}
use Rattle.vx_base.proofs.Results.{bind_ok}
use Rattle.vx_election_model.specs.declared.election.Election.{Election}
use Rattle.vx_styles.specs.Cards.{cards_of}
use Rattle.vx_layout.specs.declared.plan.CardPlan.{CardPlan}
use Rattle.vx_layout.specs.declared.fault.CardFault.{CardFault}
use Rattle.vx_layout.specs.declared.fault.LayoutFault.{LayoutFault}
use Rattle.vx_layout.specs.Plan.{plan_of}
use Rattle.vx_layout.specs.Plans.{of_card, plans_with, plans_of, ArePlansOf}

-- the plans of some cards, the first of which has a number
pub record ArePlansFrom (election : Election) (from count : ℕ) (plans : List CardPlan) : Type 0 where
  pub all : length plans ≡ count
  pub each : (k : ℕ) (d : CardPlan) → k < count → plan_of election (from + k) ≡ Ok (get_or plans k d)

given : (card : ℕ) (answer : Result CardPlan LayoutFault) (plan : CardPlan) → of_card card answer ≡ Ok plan → answer ≡ Ok plan
given card (Ok made) plan h = let same : made ≡ plan = cc in ap (λ (p : CardPlan). let answer : Result CardPlan LayoutFault = Ok p in answer) same
given card (Err fault) plan h = absurd (cc)

-- one plan before the others
more : (election : Election) (from count : ℕ) (plan : CardPlan) (plans : List CardPlan) → plan_of election from ≡ Ok plan → ArePlansFrom election (from + 1) count plans → ArePlansFrom election from (suc count) (plan ∷ plans)
more election from count plan plans h are = record {
  all = ap suc are.all;
  each = λ k d less. at k d less;
} where
  at : (k : ℕ) (d : CardPlan) → k < suc count → plan_of election (from + k) ≡ Ok (get_or (plan ∷ plans) k d)
  at zero d less = let here : from + 0 ≡ from = omega arith in ap (plan_of election) here ∙ h
  at (suc k) d less = let there : from + suc k ≡ (from + 1) + k = omega arith in ap (plan_of election) there ∙ are.each k d (omega (arith, less))

from-each : (election : Election) (from count : ℕ) (plans : List CardPlan) → plans_with election (range_with_len from count) ≡ Ok plans → ArePlansFrom election from count plans
from-each election from zero plans h =
    let none : [] ≡ plans = cc in
    subst (ArePlansFrom election from 0) none (record { all = refl; each = λ k d less. absurd (omega (arith, less)) })
from-each election from (suc count) plans h =
    let rest = plans_with election (range_with_len (from + 1) count) in
    let first = bind_ok (of_card from (plan_of election from)) (λ (plan : CardPlan). rest >>= (λ (others : List CardPlan). let all : Result (List CardPlan) CardFault = Ok (plan ∷ others) in all)) plans h in
    let second = bind_ok rest (λ (others : List CardPlan). let all : Result (List CardPlan) CardFault = Ok (first.0 ∷ others) in all) plans first.2 in
    let is : first.0 ∷ second.0 ≡ plans = cc (second.2) in
    subst (ArePlansFrom election from (suc count)) is
    (more election from count first.0 second.0 (given from (plan_of election from) first.0 first.1) (from-each election (from + 1) count second.0 second.1))

first-of : (election : Election) (from count : ℕ) (plan : CardPlan) (plans : List CardPlan) → ArePlansFrom election from (suc count) (plan ∷ plans) → plan_of election from ≡ Ok plan
first-of election from count plan plans are = let at : from ≡ from + 0 = omega arith in ap (plan_of election) at ∙ are.each 0 plan (omega arith)

rest-of : (election : Election) (from count : ℕ) (plan : CardPlan) (plans : List CardPlan) → ArePlansFrom election from (suc count) (plan ∷ plans) → ArePlansFrom election (from + 1) count plans
rest-of election from count plan plans are = record {
  all = omega (arith, are.all);
  each = λ k d less. let at : (from + 1) + k ≡ from + suc k = omega arith in ap (plan_of election) at ∙ are.each (suc k) d (omega (arith, less));
}

-- the list from the plans
from-one : (election : Election) (from count : ℕ) (plans : List CardPlan) → ArePlansFrom election from count plans → plans_with election (range_with_len from count) ≡ Ok plans
from-one election from zero [] are = refl
from-one election from zero (plan ∷ plans) are = absurd (omega (arith, are.all))
from-one election from (suc count) [] are = absurd (omega (arith, are.all))
from-one election from (suc count) (plan ∷ plans) are =
    rw (first-of election from count plan plans are, from-one election (from + 1) count plans (rest-of election from count plan plans are))

-- the first fault, after the plans before it
from-stops : (election : Election) (from count k card : ℕ) (plans : List CardPlan) (fault : LayoutFault) → card ≡ from + k → k < count → ArePlansFrom election from k plans → plan_of election card ≡ Err fault → plans_with election (range_with_len from count) ≡ Err (record { card = card; fault = fault })
from-stops election from zero k card plans fault at less are stop = absurd (omega arith)
from-stops election from (suc count) zero card plans fault at less are stop =
    let here : from ≡ card = omega (arith, at) in
    rw (ap (plan_of election) here ∙ stop) (ap (λ (c : ℕ). let all : Result (List CardPlan) CardFault = Err (record { card = c; fault = fault }) in all) here)
from-stops election from (suc count) (suc k) card [] fault at less are stop = absurd (omega (arith, are.all))
from-stops election from (suc count) (suc k) card (plan ∷ plans) fault at less are stop =
    rw (first-of election from k plan plans are, from-stops election (from + 1) count k card plans fault (omega (arith, at)) (omega (arith, less)) (rest-of election from k plan plans are) stop)

-- all plans, or the first fault
pub all-listed : (election : Election) (count : ℕ) (plans : List CardPlan) → count ≡ length (cards_of election) → ArePlansFrom election 0 count plans → plans_of election ≡ Ok plans
unfolding plans_of
all-listed election count plans counted are =
    let Are : ℕ → Type 0 = λ n. ArePlansFrom election 0 n plans in
    from-one election 0 (length (cards_of election)) plans (subst Are counted are)

pub first-stops : (election : Election) (card : ℕ) (plans : List CardPlan) (fault : LayoutFault) → card < length (cards_of election) → ArePlansFrom election 0 card plans → plan_of election card ≡ Err fault → plans_of election ≡ Err (record { card = card; fault = fault })
unfolding plans_of
first-stops election card plans fault there are stop =
    from-stops election 0 (length (cards_of election)) card card plans fault (omega arith) there are stop

pub listed-each : (election : Election) (plans : List CardPlan) → plans_of election ≡ Ok plans → ArePlansOf election plans
unfolding plans_of
listed-each election plans h =
    let are = from-each election 0 (length (cards_of election)) plans h in
    record {
      all = are.all;
      each = λ card d less. let at : card ≡ 0 + card = omega arith in ap (plan_of election) at ∙ are.each card d (omega (arith, less, are.all));
    }

pub listed-one : (election : Election) (plans : List CardPlan) → ArePlansOf election plans → plans_of election ≡ Ok plans
unfolding plans_of
listed-one election plans are =
    from-one election 0 (length (cards_of election)) plans (record {
      all = are.all;
      each = λ k d less. let at : 0 + k ≡ k = omega arith in ap (plan_of election) at ∙ are.each k d (omega (arith, less, are.all));
    })
