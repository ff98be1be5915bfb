use Rattle.std.proofs.Common.{◌∙◌, sym, ap, subst, List, ℕ, Result, Err}
use Rattle.vx_base.specs.Refusals.{Gives}
use Rattle.vx_audit.specs.declared.hand.HandLine.{HandLine}
use Rattle.vx_audit.specs.declared.hand.HandFault.{HandFault}
use Rattle.vx_audit.specs.Hand.{hand_of, is_no_memory}
use Rattle.vx_audit.specs.declared.status.AuditStatus.{AuditStatus}
use Rattle.vx_audit.specs.Done.{IsAuditDone}
use Rattle.vx_audit.specs.Outcome.{once_handed, with_hand}
use Rattle.vx_audit.proofs.Acts.{comes_as, comes_done, comes_taken, hand_refused, not_taken}
use Rattle.vx_audit.proofs.taking.take_hand.Goals as goal

pub returns-in-Err-clause-done : goal.returns-in-Err-clause-done
returns-in-Err-clause-done g c files told taken rest =
    not_taken c.steps_in_order.ensures 4 (files c.args.name.now) (λ bytes. once_handed (hand_of c.args.report.now bytes) rest) taken c.in-Err.cause
    c.status_of_halt.result c.status_of_halt.ensures (c.in-Err.ensures.told files told)

pub returns-in-Ok-read_hand-clause-done : goal.returns-in-Ok-read_hand-clause-done
returns-in-Ok-read_hand-clause-done g c files told taken rest =
    let file = files c.args.name.now in
    let report = c.args.report.now in
    let bytes = c.in-Ok.bytes in
    let read = ap (hand_of report) (sym c.as_slice.ensures) ∙ c.in-Ok-read_hand.ensures in
    comes_as (with_hand report file rest) (once_handed (hand_of report bytes) rest) (rest c.in-Ok-read_hand.hand) taken
    (ap (λ (r : Result (List HandLine) HandFault). once_handed r rest) read)
    (comes_taken c.steps_in_order.ensures 4 file (λ given. once_handed (hand_of report given) rest) taken bytes (c.in-Ok.ensures.told files told))

pub returns-clause-done : goal.returns-clause-done
returns-clause-done g c files told taken rest =
    let file = files c.args.name.now in
    let report = c.args.report.now in
    let bytes = c.in-Ok.bytes in
    let gives = subst (λ (given : List ℕ). Gives is_no_memory (Err c.in-Err-read_hand.fault) (hand_of report given)) c.as_slice.ensures
    c.in-Err-read_hand.ensures in
    comes_done (with_hand report file rest) (once_handed (hand_of report bytes) rest) taken taken c.status_of_hand.result
    (comes_taken c.steps_in_order.ensures 4 file (λ given. once_handed (hand_of report given) rest) taken bytes (c.in-Ok.ensures.told files told))
    (subst (λ (status : AuditStatus). IsAuditDone (once_handed (hand_of report bytes) rest) taken taken status) (sym c.status_of_hand.ensures)
    (hand_refused c.acts_in_order.ensures c.in-Err-read_hand.fault (hand_of report bytes) rest taken gives))
