use Rattle.std.proofs.Common.{false, Err, ap, ◌∙◌}
use Rattle.std.proofs.lemmas.Result.{err_from_is_err_and}
use Rattle.vx_command_center.proofs.Asking.{items_asked, items_unsized}
use Rattle.vx_command_center.proofs.Taken.{none_taken}
use Rattle.vx_command_center.proofs.taking.take_items.Goals as goal

pub returns-in_err-rooms-clause-told : goal.returns-in_err-rooms-clause-told
returns-in_err-rooms-clause-told g c files told =
    let err = err_from_is_err_and c.from_residual.result c.from_residual.ensures.1 in
    rw (err.1 ∙ ap Err err.2)
    (none_taken c.steps_in_order.ensures c.args.election.now files c.args.words.now c.requires.words.some c.in_err-rooms.field-0.0 c.in_err-rooms.ensures.broke)

pub returns-in_err-rooms-clause-asked : goal.returns-in_err-rooms-clause-asked
returns-in_err-rooms-clause-asked g c =
    let err = err_from_is_err_and c.from_residual.result c.from_residual.ensures.1 in
    rw (err.1 ∙ ap Err err.2)
    (items_unsized g.I.Inputs c.args.words.now _ _ false c.in_err-rooms.ensures.asked)

pub returns-clause-told : goal.returns-clause-told
returns-clause-told g c files told = c.take_into-taken.ensures.told files cc

pub returns-clause-asked : goal.returns-clause-asked
returns-clause-asked g c =
    items_asked g.I.Inputs c.questions_asked.ensures c.args.words.now _ _ _ _ c.in_ok-rooms.ensures.asked c.take_into-taken.ensures.asked
