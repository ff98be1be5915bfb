use Rattle.vx_command.proofs.Acts.{wrote_text, wrote_front}
use Rattle.vx_command.proofs.writing.write_text.Goals as goal

pub returns-in-Ok-clause-done : goal.returns-in-Ok-clause-done
returns-in-Ok-clause-done g c held =
    wrote_text c.args.text.now (g.S.Sink.taken c.args.out.now) (g.S.Sink.taken c.give.new.out) held c.in-Ok.ensures.given

pub returns-in-Err-clause-done : goal.returns-in-Err-clause-done
returns-in-Err-clause-done g c held =
    wrote_front c.args.text.now (g.S.Sink.taken c.args.out.now) (g.S.Sink.taken c.give.new.out) held c.in-Err.ensures.refused
