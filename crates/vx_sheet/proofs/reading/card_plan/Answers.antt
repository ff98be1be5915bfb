use Rattle.std.proofs.Common.{◌<◌, List, Ok, length, get_or, ap, sym, ◌∙◌, arith}
use Rattle.vx_layout.specs.declared.plan.CardPlan.{CardPlan}
use Rattle.vx_sheet.proofs.Planned.{card-there}
use Rattle.vx_sheet.proofs.reading.card_plan.Goals as goal

pub bounds-as_slice-card : goal.bounds-as_slice-card
bounds-as_slice-card c =
    omega (arith, card-there c.args.election.now c.args.plans.now c.args.card c.requires.plans c.requires.there, ap length c.as_slice.ensures)

pub returns : goal.returns
returns c =
    let plan = c.index-as_slice-card.result in
    c.requires.plans.each c.args.card plan (card-there c.args.election.now c.args.plans.now c.args.card c.requires.plans c.requires.there)
    ∙ ap Ok (sym (c.index-as_slice-card.is ∙ ap (λ (plans : List CardPlan). get_or plans c.args.card plan) c.as_slice.ensures))
