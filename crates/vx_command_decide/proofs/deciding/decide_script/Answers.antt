use Rattle.std.proofs.Common.{ℕ, List, subst}
use Rattle.vx_command.specs.Acts.{input_of}
use Rattle.vx_command.specs.Done.{IsDone}
use Rattle.vx_command_decide.specs.Outcome.{lines_outcome}
use Rattle.vx_script.specs.Script.{lines_of, script_limit}
use Rattle.vx_command_decide.proofs.deciding.decide_script.Goals as goal

pub returns-clause-done : goal.returns-clause-done
returns-clause-done g c files told =
    let Done : List ℕ → Type 0 = λ bytes. IsDone (lines_outcome c.args.election.now c.args.journal.now.center.events 1 (lines_of bytes)) (g.S.Sink.taken c.args.out.now) (g.S.Sink.taken c.decide_lines.new.out) (g.K.Keeper.held c.args.keeper.now) (g.K.Keeper.held c.decide_lines.new.keeper) c.decide_lines.result in
    c.steps_in_order.ensures.taken 2 (input_of 2 script_limit (files c.args.script.now)) c.in_ok-bytes.bytes (λ bytes. lines_outcome c.args.election.now c.args.journal.now.center.events 1 (lines_of bytes)) (g.S.Sink.taken c.args.out.now)
    (c.in_ok-bytes.ensures.told files told) (g.K.Keeper.held c.args.keeper.now) (g.S.Sink.taken c.decide_lines.new.out) (g.K.Keeper.held c.decide_lines.new.keeper) c.decide_lines.result
    (subst Done c.as_slice.ensures c.decide_lines.ensures.done)
