-- The plans of all cards of an election.
use Rattle.std.specs.Prelude.{◌≡◌, ◌<◌, ℕ, List, [], ◌∷◌, length, slice_index_or, Result, Ok, Err}
use Rattle.std.specs.List.{range_with_len}
use Rattle.vx_base.specs.Results.{◌>>=◌}
use Rattle.vx_election_model.specs.declared.election.Election.{Election}
use Rattle.vx_election_model.specs.Valid.{IsValid}
use Rattle.vx_styles.specs.Cards.{cards_of}
use Rattle.vx_layout.specs.declared.plan.CardPlan.{CardPlan}
use Rattle.vx_layout.specs.declared.fault.CardFault.{CardFault}
use Rattle.vx_layout.specs.declared.fault.LayoutFault.{LayoutFault}
use Rattle.vx_layout.specs.Options.{ShowsEachOption, GivesEachContestAPage}
use Rattle.vx_layout.specs.Plan.{plan_of}

-- the plan of a card, or its fault with the card's number
abbrev pub of_card : ℕ → Result CardPlan LayoutFault → Result CardPlan CardFault
of_card card (Ok plan) = Ok plan
of_card card (Err fault) = Err (record { card = card; fault = fault })

-- the plans of some cards, in order; or the first that can't be planned
abbrev pub plans_with : Election → List ℕ → Result (List CardPlan) CardFault
plans_with election [] = Ok []
plans_with election (card ∷ cards) =
    of_card card (plan_of election card) >>= (λ plan. plans_with election cards >>= (λ plans. Ok (plan ∷ plans)))

-- the plans of all cards of an election, in order; or the first that can't be planned
unfoldable pub plans_of : Election → Result (List CardPlan) CardFault
plans_of election = plans_with election (range_with_len 0 (length (cards_of election)))

-- the plans of all cards of an election, in order
pub record ArePlansOf (election : Election) (plans : List CardPlan) : Type 0 where
  pub all : length plans ≡ length (cards_of election)
  pub each : (card : ℕ) (d : CardPlan) → card < length plans → plan_of election card ≡ Ok (slice_index_or plans card d)

-- both say the same
pub record PlansAreThose : Type 0 where
  pub each : (election : Election) (plans : List CardPlan) → plans_of election ≡ Ok plans → ArePlansOf election plans
  pub one : (election : Election) (plans : List CardPlan) → ArePlansOf election plans → plans_of election ≡ Ok plans

-- what a plan shows: each option of its card once, and each contest on one page
abbrev pub PlansShowEachOption : Type 0
PlansShowEachOption =
    (election : Election) (card : ℕ) (plan : CardPlan) → IsValid election → plan_of election card ≡ Ok plan
    → ShowsEachOption election card plan × GivesEachContestAPage plan
