use Rattle.std.proofs.Common.{◌≡◌, Ok}
use Rattle.std.specs.Prelude.{IfOk}
use Rattle.vx_base.proofs.Results.{Gives-holds}
use Rattle.vx_layout.specs.declared.plan.CardPlan.{CardPlan}
use Rattle.vx_layout.specs.Faults.{is_no_memory}
use Rattle.vx_layout.specs.Plan.{plan_of}
use Rattle.vx_layout.specs.Options.{ShowsEachOption, GivesEachContestAPage}
use Rattle.vx_layout.specs.Pages.{IsNumbered, HasPaper, StandsOnGrid}
use Rattle.vx_layout.specs.Zones.{IsClearPlan, ZonesMeetNoTextInPlan, AreApartInPlan}
use Rattle.vx_layout.proofs.Clear.{clear-plan, free-plan, planned-paper, planned-on_grid}
use Rattle.vx_layout.proofs.Made.{holds-each}
use Rattle.vx_layout.proofs.OnePage.{page-for_contests}
use Rattle.vx_layout.proofs.Order.{apart-plan}
use Rattle.vx_layout.proofs.Parts.{planned-numbered}
use Rattle.vx_layout.proofs.Shown.{each-option_shown}
use Rattle.vx_layout.proofs.planning.plan_card.Goals as goal
use Rattle.vx_layout.proofs.planning.plan_card.Goals.{After-planned}

-- what holds of every plan that is defined holds of the one that is answered
holds : (c : After-planned) (P : CardPlan → Type 0) → ((plan : CardPlan) → plan_of c.args.election.now c.args.card ≡ Ok plan → P plan) → IfOk c.planned.result P
holds c P each = Gives-holds is_no_memory c.planned.result c.planned.ensures (holds-each P (plan_of c.args.election.now c.args.card) each)

pub returns-clause-numbered : goal.returns-clause-numbered
returns-clause-numbered c =
    holds c (IsNumbered c.args.card) (λ plan h. planned-numbered c.args.election.now c.args.card plan (c.cards_are_few.ensures c.args.election.now c.requires) c.requires h)

pub returns-clause-paper : goal.returns-clause-paper
returns-clause-paper c = holds c (HasPaper c.args.election.now.paper) (λ plan h. planned-paper c.args.election.now c.args.card plan c.requires h)

pub returns-clause-on_grid : goal.returns-clause-on_grid
returns-clause-on_grid c = holds c (StandsOnGrid c.args.election.now) (λ plan h. planned-on_grid c.args.election.now c.args.card plan c.requires h)

pub returns-clause-options : goal.returns-clause-options
returns-clause-options c = holds c (ShowsEachOption c.args.election.now c.args.card) (λ plan h. each-option_shown c.args.election.now c.args.card plan c.requires h)

pub returns-clause-one_page : goal.returns-clause-one_page
returns-clause-one_page c = holds c GivesEachContestAPage (λ plan h. page-for_contests c.args.election.now c.args.card plan c.requires h)

pub returns-clause-clear : goal.returns-clause-clear
returns-clause-clear c = holds c IsClearPlan (λ plan h. clear-plan c.args.election.now c.args.card plan c.requires h)

pub returns-clause-cells : goal.returns-clause-cells
returns-clause-cells c = holds c ZonesMeetNoTextInPlan (λ plan h. free-plan c.args.election.now c.args.card plan c.requires h)

pub returns-clause-apart : goal.returns-clause-apart
returns-clause-apart c = holds c AreApartInPlan (λ plan h. apart-plan c.args.election.now c.args.card plan c.requires h)
