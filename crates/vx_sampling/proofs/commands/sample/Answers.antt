use Rattle.std.proofs.Common.{subst}
use Rattle.vx_command.specs.Done.{IsDone}
use Rattle.vx_sampling.specs.declared.asking.Asked.{Asked}
use Rattle.vx_sampling.specs.Asked.{text_asked}
use Rattle.vx_sampling.specs.Drawn.{drawn_outcome}
use Rattle.vx_sampling.proofs.commands.sample.Goals as goal

pub returns-clause-done : goal.returns-clause-done
returns-clause-done g c files told records kept =
    let Done : Asked → Type 0 = λ asked. IsDone (drawn_outcome (text_asked asked) c.args.election.now c.args.hand.now files records)
    (g.S.Sink.taken c.args.out.now) (g.S.Sink.taken c.answer.new.out) (g.K.Keeper.held c.args.keeper.now) (g.K.Keeper.held c.answer.new.keeper)
    c.answer.result in
    subst Done c.asked_by-asked.ensures (c.answer.ensures.done files told records kept)
