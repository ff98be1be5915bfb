use Rattle.std.proofs.Common.{[], ◌∷◌, ◌++◌, Err, ap, ◌∙◌}
use Rattle.std.proofs.lemmas.Result.{err_from_is_err_and}
use Rattle.vx_command.specs.Acts.{Write, work}
use Rattle.vx_shared.specs.Legal.{done_events}
use Rattle.vx_command_center.specs.Outcome.{append_acts, history_acts}
use Rattle.vx_command_center.proofs.ending.keep_history.Goals as goal

pub returns-in_err-append_history-clause-done : goal.returns-in_err-append_history-clause-done
returns-in_err-append_history-clause-done g c =
    let err = err_from_is_err_and c.from_residual.result c.from_residual.ensures.1 in
    let history = c.args.history.now in
    rw (err.1 ∙ ap Err err.2)
    (c.acts_in_order.ensures.broken (append_acts (done_events history)) (work (history_acts 0 history ++ Write c.args.text.now ∷ []))
    _ _ _ _ c.in_err-append_history.field-0.0 (c.in_err-append_history.ensures.done (g.S.Sink.taken c.args.out.now)))

pub returns-in_err-write_history-clause-done : goal.returns-in_err-write_history-clause-done
returns-in_err-write_history-clause-done g c =
    let err = err_from_is_err_and c.from_residual-in_err-write_history.result c.from_residual-in_err-write_history.ensures.1 in
    let history = c.args.history.now in
    let cause = c.in_err-write_history.field-0.0 in
    let held = g.K.Keeper.held c.append_history.new.keeper in
    let now = g.S.Sink.taken c.write_history.new.out in
    rw (err.1 ∙ ap Err err.2)
    (c.acts_in_order.ensures.done (append_acts (done_events history)) (work (history_acts 0 history ++ Write c.args.text.now ∷ []))
    _ _ _ _ (c.in_ok-append_history.ensures.done (g.S.Sink.taken c.args.out.now)) now held (Err cause)
    (c.acts_in_order.ensures.broken (history_acts 0 history) (work (Write c.args.text.now ∷ [])) _ _ held held cause (c.in_err-write_history.ensures.done held)))

pub returns-clause-done : goal.returns-clause-done
returns-clause-done g c =
    let history = c.args.history.now in
    let held = g.K.Keeper.held c.append_history.new.keeper in
    let now = g.S.Sink.taken c.write_text.new.out in
    let answer = c.write_text.result in
    c.acts_in_order.ensures.done (append_acts (done_events history)) (work (history_acts 0 history ++ Write c.args.text.now ∷ []))
    _ _ _ _ (c.in_ok-append_history.ensures.done (g.S.Sink.taken c.args.out.now)) now held answer
    (c.acts_in_order.ensures.done (history_acts 0 history) (work (Write c.args.text.now ∷ [])) _ _ held held (c.in_ok-write_history.ensures.done held) now held answer
    (c.write_text.ensures.done held))
