-- Cards that are planned.
use Rattle.std.proofs.Common.{◌≡◌, ℕ, ◌<◌, Bool, true, false, cond, List, length, Result, Ok, Err, refl, arith}
use Rattle.std.specs.Prelude.{IsOk, is_ok, nat_lt}
use Rattle.vx_base.proofs.Numbers.{below-from_yes}
use Rattle.vx_election_model.specs.declared.election.Election.{Election}
use Rattle.vx_styles.specs.Cards.{cards_of}
use Rattle.vx_layout.specs.declared.fault.LayoutFault.{LayoutFault}
use Rattle.vx_layout.specs.declared.plan.CardPlan.{CardPlan}
use Rattle.vx_layout.specs.declared.fault.LayoutFault.TheVariants.{NoCard}
use Rattle.vx_layout.specs.Plan.{plan_of, plan_of_card}
use Rattle.vx_layout.specs.Plans.{ArePlansOf}

chosen-ok : (b : Bool) (planned : Result CardPlan LayoutFault) (fault : LayoutFault) → IsOk (cond b planned (Err fault)) → b ≡ true
chosen-ok true planned fault ok = refl
chosen-ok false planned fault ok = absurd cc

-- a card that is planned is one of the election's
pub card-there : (election : Election) (plans : List CardPlan) (card : ℕ) → ArePlansOf election plans → IsOk (plan_of election card) → card < length plans
unfolding plan_of
card-there election plans card are planned =
    let count = length (cards_of election) in
    let there = chosen-ok (nat_lt card count) (plan_of_card election card) (NoCard count) planned in
    omega (arith, below-from_yes card count there, are.all)

-- a result that is given is one
pub given-is_ok : (planned : Result CardPlan LayoutFault) (plan : CardPlan) → planned ≡ Ok plan → IsOk planned
given-is_ok (Ok made) plan h = refl
given-is_ok (Err fault) plan h = absurd cc
