use Rattle.std.proofs.Common.{Some, ap, ◌∙◌}
use Rattle.vx_base.proofs.Booleans.{and-right}
use Rattle.vx_events.specs.Fits.{is_key}
use Rattle.vx_events.specs.declared.event.Event.TheVariants.{Add}
use Rattle.vx_command_queue.proofs.Walked.{none_more, one_more, sheet_there}
use Rattle.vx_command_queue.proofs.walk.Queue.take_event.Goals as goal

pub take_sheet-requires-clause-there : goal.take_sheet-requires-clause-there
take_sheet-requires-clause-there c =
    sheet_there _ _ _ _ _ _ _ c.requires.up_to c.in-Some.key.now c.in-Some.sheet.now (c.requires.there ∙ ap Some c.in-Some.ensures)

pub take_sheet-requires-clause-fits : goal.take_sheet-requires-clause-fits
take_sheet-requires-clause-fits c =
    and-right (is_key c.in-Some.key.now) _ (c.requires.history.fits c.args.index (Add c.in-Some.key.now c.in-Some.sheet.now) (c.requires.there ∙ ap Some c.in-Some.ensures))

pub returns-in_ok-take_sheet-in-Some-clause-up_to : goal.returns-in_ok-take_sheet-in-Some-clause-up_to
returns-in_ok-take_sheet-in-Some-clause-up_to c =
    one_more _ _ _ _ _ _ _ c.requires.up_to c.in-Some.key.now c.in-Some.sheet.now (c.requires.there ∙ ap Some c.in-Some.ensures) _ _ _ c.in_ok-take_sheet-in-Some.ensures.lines c.in_ok-take_sheet-in-Some.ensures.next

pub returns-in-None-clause-up_to : goal.returns-in-None-clause-up_to
returns-in-None-clause-up_to c = none_more _ _ _ _ _ _ _ c.requires.up_to c.args.event.now c.requires.there c.in-None.ensures
