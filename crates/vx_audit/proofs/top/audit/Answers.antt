use Rattle.std.proofs.Common.{◌∙◌, false, [], ◌∷◌}
use Rattle.vx_tally.specs.declared.report.Report.{Report}
use Rattle.vx_audit.specs.Outcome.{AuditOutcome, asked_outcome, audited, with_hand}
use Rattle.vx_audit.specs.Status.{is_done}
use Rattle.vx_audit.specs.Words.{Audit}
use Rattle.vx_audit.proofs.Acts.{asked_front, comes_done}
use Rattle.vx_audit.proofs.top.audit.Goals as goal

pub returns-in-Err-clause-done : goal.returns-in-Err-clause-done
returns-in-Err-clause-done g c files told =
    c.in-Err.ensures.done files told (g.S.Sink.taken c.args.out.now)
    (λ given. with_hand given (files c.args.hand.now) (audited c.args.seed c.args.size given))

pub returns-clause-done : goal.returns-clause-done
returns-clause-done g c files told =
    let taken = g.S.Sink.taken c.args.out.now in
    let rest : Report → AuditOutcome = λ given. with_hand given (files c.args.hand.now) (audited c.args.seed c.args.size given) in
    let still = c.in-Ok.ensures.inputs.inputs.same ∙ told in
    comes_done (asked_outcome (Audit c.args.name.now c.args.seed c.args.size c.args.hand.now) files) (rest c.in-Ok.report) taken
    (g.S.Sink.taken c.audit_report-done.new.out) c.audit_report-done.result (c.in-Ok.ensures.done files told taken rest)
    (c.audit_report-done.ensures.done files still)

pub returns-in-Err-clause-asked : goal.returns-in-Err-clause-asked
returns-in-Err-clause-asked g c =
    asked_front g.I.Inputs (c.args.name.now ∷ c.args.hand.now ∷ []) c.args.inputs.now c.take_report.new.inputs c.in-Err.status c.in-Err.ensures.inputs.no_end
    (c.asks_in_order.ensures.broken c.args.name.now (c.args.hand.now ∷ []) c.args.inputs.now c.take_report.new.inputs false c.in-Err.ensures.asked)

pub returns-clause-asked : goal.returns-clause-asked
returns-clause-asked g c =
    c.asks_in_order.ensures.then c.args.name.now (c.args.hand.now ∷ []) c.args.inputs.now c.take_report.new.inputs c.audit_report-done.new.inputs
    (is_done c.audit_report-done.result) c.in-Ok.ensures.asked c.audit_report-done.ensures.asked
