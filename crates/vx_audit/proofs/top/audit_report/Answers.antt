use Rattle.std.proofs.Common.{[], ◌∷◌}
use Rattle.vx_base.proofs.Booleans.{not-both}
use Rattle.vx_audit.specs.Outcome.{audited, with_hand}
use Rattle.vx_audit.proofs.Acts.{asked_front, comes_done}
use Rattle.vx_audit.proofs.top.audit_report.Goals as goal

pub returns-in-Ok-clause-done : goal.returns-in-Ok-clause-done
returns-in-Ok-clause-done g c files told =
    let taken = g.S.Sink.taken c.args.out.now in
    let report = c.args.report.now in
    let handed = audited c.args.seed c.args.size report in
    comes_done (with_hand report (files c.args.hand.now) handed) (handed c.in-Ok.hand) taken (g.S.Sink.taken c.write_audit-done.new.out)
    c.write_audit-done.result (c.in-Ok.ensures.done files told taken handed) c.write_audit-done.ensures.done

pub returns-in-Err-clause-done : goal.returns-in-Err-clause-done
returns-in-Err-clause-done g c files told =
    c.in-Err.ensures.done files told (g.S.Sink.taken c.args.out.now) (audited c.args.seed c.args.size c.args.report.now)

pub returns-in-Ok-clause-nothing_written : goal.returns-in-Ok-clause-nothing_written
returns-in-Ok-clause-nothing_written g c never = absurd (not-both _ c.write_audit-done.ensures.late never)

pub returns-in-Err-clause-asked : goal.returns-in-Err-clause-asked
returns-in-Err-clause-asked g c =
    asked_front g.I.Inputs (c.args.hand.now ∷ []) c.args.inputs.now c.take_hand.new.inputs c.in-Err.status c.in-Err.ensures.inputs.no_end
    c.in-Err.ensures.asked
