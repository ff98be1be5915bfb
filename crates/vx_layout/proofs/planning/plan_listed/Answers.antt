use Rattle.std.proofs.Common.{◌<◌, ◌≤◌, ℕ, List, length, get_or, Err, sym, ap, ap₂, ◌∙◌, subst, arith}
use Rattle.std.specs.Prelude.{Result}
use Rattle.vx_base.specs.Refusals.{Gives}
use Rattle.vx_styles.specs.declared.card.Card.{Card}
use Rattle.vx_styles.specs.Cards.{cards_of}
use Rattle.vx_layout.specs.declared.plan.CardPlan.{CardPlan}
use Rattle.vx_layout.specs.declared.fault.LayoutFault.{LayoutFault}
use Rattle.vx_layout.specs.declared.fault.LayoutFault.TheVariants.{NoCard}
use Rattle.vx_layout.specs.Faults.{is_no_memory}
use Rattle.vx_layout.specs.Plan.{plan_checked}
use Rattle.vx_layout.proofs.Sizes.{sizes-from_valid}
use Rattle.vx_layout.proofs.Parts.{plan-there, plan-past}
use Rattle.vx_layout.proofs.planning.plan_listed.Goals as goal

pub plan_contests-requires-clause-precinct : goal.plan_contests-requires-clause-precinct
plan_contests-requires-clause-precinct c =
    let there : c.args.card < length (cards_of c.args.election.now) = omega (arith, ap length c.requires.listed) in
    let There : List Card → Type 0 = λ cards. (get_or cards c.args.card (record { style = 0; precinct = 0 })).precinct < length c.args.election.now.precincts in
    subst There (sym c.requires.listed) (c.each_card_has_its_precinct.ensures c.args.election.now c.args.card c.requires.valid there)

pub plan_contests-requires-clause-sizes : goal.plan_contests-requires-clause-sizes
plan_contests-requires-clause-sizes c = sizes-from_valid c.args.election.now c.requires.valid

pub returns-then-card-cards : goal.returns-then-card-cards
returns-then-card-cards c =
    let past : length (cards_of c.args.election.now) ≤ c.args.card = omega (arith, ap length c.requires.listed) in
    plan-past c.args.election.now c.args.card past
    ∙ ap (λ (n : ℕ). let fault : Result CardPlan LayoutFault = Err (NoCard n) in fault) (sym (ap length c.requires.listed))

pub returns : goal.returns
returns c =
    let election = c.args.election.now in
    let there : c.args.card < length (cards_of election) = omega (arith, ap length c.requires.listed) in
    let listed = ap (λ (cards : List Card). get_or cards c.args.card (record { style = 0; precinct = 0 })) c.requires.listed in
    let same = ap₂ (λ (card : Card) (numbers : List ℕ). plan_checked election c.args.card card numbers) listed (c.as_slice.ensures ∙ c.in_ok-numbers.ensures.exact) in
    subst (λ (answer : Result CardPlan LayoutFault). Gives is_no_memory c.plan_contests.result answer) (same ∙ sym (plan-there election c.args.card there)) c.plan_contests.ensures
