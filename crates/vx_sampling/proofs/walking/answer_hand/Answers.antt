use Rattle.std.proofs.Common.{List}
use Rattle.vx_audit.specs.declared.hand.HandLine.{HandLine}
use Rattle.vx_command.specs.Acts.{Outcome, writing}
use Rattle.vx_sampling.specs.Asked.{text_asked}
use Rattle.vx_sampling.specs.Drawn.{hand_in}
use Rattle.vx_sampling.proofs.walking.answer_hand.Goals as goal

pub returns-clause-done : goal.returns-clause-done
returns-clause-done g c files told held =
    let rest : List HandLine → Outcome = λ lines. writing (text_asked c.args.asked c.args.election.now c.args.contests.now c.args.records.now lines) in
    c.steps_in_order.ensures.taken 4 (hand_in c.args.contests.now c.args.records.now (files c.args.hand.now)) c.in_ok-lines.lines rest (g.S.Sink.taken c.args.out.now)
    (c.in_ok-lines.ensures.told files told) held (g.S.Sink.taken c.write_asked-done.new.out) held c.write_asked-done.result
    (c.write_asked-done.ensures.done held)
