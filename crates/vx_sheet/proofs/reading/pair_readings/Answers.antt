use Rattle.vx_sheet.proofs.Kept.{named-there, sheet-added}
use Rattle.vx_sheet.proofs.reading.pair_readings.Goals as goal

pub card_plan-plan-requires-clause-there : goal.card_plan-plan-requires-clause-there
card_plan-plan-requires-clause-there c = named-there c.args.election.now c.args.first.now c.requires.first

pub returns-in-Ok-clause-added : goal.returns-in-Ok-clause-added
returns-in-Ok-clause-added c =
    sheet-added c.sheets_fit.ensures c.named_pages_stand_on_the_grid.ensures c.args.election.now c.requires.election c.requires.shown
    c.card_plan-plan.result.now c.args.first.now c.args.second.now c.requires.first c.requires.second c.in-Ok.sheet
    c.card_plan-plan.ensures c.in-Ok.ensures.exact
