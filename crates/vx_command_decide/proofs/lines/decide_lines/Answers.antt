use Rattle.std.proofs.Common.{◌∙◌, List, ℕ, Err, sym, ap, subst}
use Rattle.std.proofs.lemmas.Result.{err_from_is_err_and}
use Rattle.vx_command.specs.Done.{IsDone}
use Rattle.vx_command_decide.specs.Outcome.{lines_outcome}
use Rattle.vx_command_decide.proofs.Accepted.{front_line}
use Rattle.vx_command_decide.proofs.lines.decide_lines.Goals as goal

pub returns-in_err-take_line-clause-done : goal.returns-in_err-take_line-clause-done
returns-in_err-take_line-clause-done g c =
    let err = err_from_is_err_and c.from_residual.result c.from_residual.ensures.1 in
    let Done : List (List ℕ) → Type 0 = λ lines. IsDone (lines_outcome c.args.election.now c.lines.journal.center.events c.lines.number lines) (g.S.Sink.taken c.lines.out) (g.S.Sink.taken c.take_line.new.out) (g.K.Keeper.held c.lines.keeper) (g.K.Keeper.held c.take_line.new.keeper) (Err c.in_err-take_line.field-0.0) in
    let front = front_line c.lines.text.now c.first_line.result.0.now c.first_line.result.1 c.first_line.ensures.lines in
    rw (err.1 ∙ ap Err err.2)
    (c.lines.invariant.comes (g.S.Sink.taken c.take_line.new.out) (g.K.Keeper.held c.take_line.new.keeper) (Err c.in_err-take_line.field-0.0)
    (subst Done (sym front.1) (c.in_err-take_line.ensures.done front.0)))
