use Rattle.std.proofs.Common.{sym, subst}
use Rattle.vx_command.specs.Asking.{Asks}
use Rattle.vx_audit.specs.Done.{IsAuditDone}
use Rattle.vx_audit.specs.Outcome.{asked_outcome}
use Rattle.vx_audit.specs.Status.{is_done}
use Rattle.vx_audit.specs.Words.{Asked, Totals, Audit, names_of}
use Rattle.vx_audit.proofs.Spelled.{audit-asked, spells-audit}
use Rattle.vx_audit.proofs.top.run_audit.Goals as goal

pub returns-in-Some-clause-usage : goal.returns-in-Some-clause-usage
returns-in-Some-clause-usage g c = (
  λ usage. absurd (c.totals.ensures.no_usage usage),
  λ nothing. absurd (nothing (Totals c.in-Some.report.now) c.in-Some.ensures),
)

pub returns-clause-usage : goal.returns-clause-usage
returns-clause-usage g c = (
  λ usage. absurd (c.audit.ensures.no_usage usage),
  λ nothing. absurd (nothing (Audit c.word-3.result.now c.in-Some-sample_seed.seed c.in-Some-sample_size.size c.word-4.result.now)
      (spells-audit c.args.words.now c.word-3.result.now c.word.result.now c.word-2.result.now c.word-4.result.now c.word-3.ensures c.word.ensures
      c.word-2.ensures c.word-4.ensures c.in-Some-sample_seed.seed c.in-Some-sample_size.size c.if-not-is_audit_form.ensures c.in-Some-sample_seed.ensures
      c.in-Some-sample_size.ensures)),
)

pub returns-clause-done : goal.returns-clause-done
returns-clause-done g c files told asked asks =
    let same = audit-asked c.args.words.now c.word-3.result.now c.word.result.now c.word-2.result.now c.word-4.result.now c.word-3.ensures c.word.ensures
    c.word-2.ensures c.word-4.ensures c.in-Some-sample_seed.seed c.in-Some-sample_size.size c.if-not-is_audit_form.ensures c.in-Some-sample_seed.ensures
    c.in-Some-sample_size.ensures asked asks in
    subst (λ (what : Asked). IsAuditDone (asked_outcome what files) (g.S.Sink.taken c.args.out.now) (g.S.Sink.taken c.audit.new.out) c.audit.result) (sym same)
    (c.audit.ensures.done files told)

pub returns-clause-asked : goal.returns-clause-asked
returns-clause-asked g c asked asks =
    let same = audit-asked c.args.words.now c.word-3.result.now c.word.result.now c.word-2.result.now c.word-4.result.now c.word-3.ensures c.word.ensures
    c.word-2.ensures c.word-4.ensures c.in-Some-sample_seed.seed c.in-Some-sample_size.size c.if-not-is_audit_form.ensures c.in-Some-sample_seed.ensures
    c.in-Some-sample_size.ensures asked asks in
    subst (λ (what : Asked). Asks g.I.Inputs (names_of what) c.args.inputs.now c.audit.new.inputs (is_done c.audit.result)) (sym same) c.audit.ensures.asked
