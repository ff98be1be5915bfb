use Rattle.std.proofs.Common.{◌≤◌, length, ap, arith}
use Rattle.vx_command_demo.proofs.Tried.{card-there, first-there, no-sheet, page-there}
use Rattle.vx_command_demo.proofs.sheets.first_pages.Goals as goal

pub returns-in_default : goal.returns-in_default
returns-in_default c = no-sheet c.args.plans.now c.as_slice.result.now c.args.card c.as_slice.ensures c.in_default.ensures.lookup.3

pub bounds-pages-0 : goal.bounds-pages-0
bounds-pages-0 c =
    let card = card-there c.args.election.now c.args.plans.now c.as_slice.result.now c.args.card c.in-Some.plan.now c.plans_are_numbered.ensures c.requires.election c.requires.plans c.as_slice.ensures c.in-Some.ensures.lookup.3.0 c.in-Some.ensures.lookup.1 in
    omega (arith, card.two, ap length c.as_slice-pages.ensures)

pub bounds-pages-1 : goal.bounds-pages-1
bounds-pages-1 c =
    let card = card-there c.args.election.now c.args.plans.now c.as_slice.result.now c.args.card c.in-Some.plan.now c.plans_are_numbered.ensures c.requires.election c.requires.plans c.as_slice.ensures c.in-Some.ensures.lookup.3.0 c.in-Some.ensures.lookup.1 in
    omega (arith, card.two, ap length c.as_slice-pages.ensures)

pub returns : goal.returns
returns c =
    let card = card-there c.args.election.now c.args.plans.now c.as_slice.result.now c.args.card c.in-Some.plan.now c.plans_are_numbered.ensures c.requires.election c.requires.plans c.as_slice.ensures c.in-Some.ensures.lookup.3.0 c.in-Some.ensures.lookup.1 in
    let enough : 2 ≤ length c.as_slice-pages.result.now = omega (arith, card.two, ap length c.as_slice-pages.ensures) in
    first-there c.args.election.now c.args.plans.now c.args.card c.in-Some.plan.now c.index-pages-0.result c.index-pages-1.result
    c.planned_pages_can_be_printed.ensures.planned c.requires.election card
    (page-there c.in-Some.plan.now c.as_slice-pages.result.now 0 c.index-pages-0.result c.as_slice-pages.ensures (omega (arith, enough)) c.index-pages-0.is)
    (page-there c.in-Some.plan.now c.as_slice-pages.result.now 1 c.index-pages-1.result c.as_slice-pages.ensures (omega (arith, enough)) c.index-pages-1.is)
