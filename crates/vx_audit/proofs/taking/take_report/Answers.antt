use Rattle.std.proofs.Common.{◌∙◌, sym, ap, subst, List, ℕ, Result, Err}
use Rattle.vx_base.specs.Refusals.{Gives}
use Rattle.vx_tally.specs.declared.report.Report.{Report}
use Rattle.vx_tally.specs.declared.fault.ReportFault.{ReportFault}
use Rattle.vx_tally.specs.Faults.{is_no_memory}
use Rattle.vx_tally.specs.Reading.{report_in_bytes}
use Rattle.vx_audit.specs.declared.status.AuditStatus.{AuditStatus}
use Rattle.vx_audit.specs.Done.{IsAuditDone}
use Rattle.vx_audit.specs.Outcome.{once_read, with_report}
use Rattle.vx_audit.proofs.Acts.{comes_as, comes_done, comes_taken, not_taken, refused}
use Rattle.vx_audit.proofs.taking.take_report.Goals as goal

pub returns-in-Err-clause-done : goal.returns-in-Err-clause-done
returns-in-Err-clause-done g c files told taken rest =
    not_taken c.steps_in_order.ensures 1 (files c.args.name.now) (λ bytes. once_read (report_in_bytes bytes) rest) taken c.in-Err.cause
    c.status_of_halt.result c.status_of_halt.ensures (c.in-Err.ensures.told files told)

pub returns-in-Ok-read_sized-clause-done : goal.returns-in-Ok-read_sized-clause-done
returns-in-Ok-read_sized-clause-done g c files told taken rest =
    let file = files c.args.name.now in
    let bytes = c.in-Ok.bytes in
    let read = ap report_in_bytes (sym c.as_slice.ensures) ∙ c.in-Ok-read_sized.ensures.exact in
    comes_as (with_report file rest) (once_read (report_in_bytes bytes) rest) (rest c.in-Ok-read_sized.report) taken
    (ap (λ (r : Result Report ReportFault). once_read r rest) read)
    (comes_taken c.steps_in_order.ensures 1 file (λ given. once_read (report_in_bytes given) rest) taken bytes (c.in-Ok.ensures.told files told))

pub returns-clause-done : goal.returns-clause-done
returns-clause-done g c files told taken rest =
    let file = files c.args.name.now in
    let bytes = c.in-Ok.bytes in
    let gives = subst (λ (given : List ℕ). Gives is_no_memory (Err c.in-Err-read_sized.fault) (report_in_bytes given)) c.as_slice.ensures
    c.in-Err-read_sized.ensures.exact in
    comes_done (with_report file rest) (once_read (report_in_bytes bytes) rest) taken taken c.status_of_report.result
    (comes_taken c.steps_in_order.ensures 1 file (λ given. once_read (report_in_bytes given) rest) taken bytes (c.in-Ok.ensures.told files told))
    (subst (λ (status : AuditStatus). IsAuditDone (once_read (report_in_bytes bytes) rest) taken taken status) (sym c.status_of_report.ensures)
    (refused c.acts_in_order.ensures c.in-Err-read_sized.fault (report_in_bytes bytes) rest taken gives))
