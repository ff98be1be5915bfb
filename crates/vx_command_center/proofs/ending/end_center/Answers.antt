use Rattle.std.proofs.Common.{◌≡◌, List, ℕ, [], ◌∷◌, Ok, Err, ◌++◌, append_assoc, ap, subst, ◌∙◌}
use Rattle.std.proofs.lemmas.Result.{err_from_is_err_and}
use Rattle.vx_command.specs.Acts.{Act, Answer, Write, work}
use Rattle.vx_command.specs.Done.{Held, IsDone, Taken}
use Rattle.vx_cvr.specs.Report.{report_of}
use Rattle.vx_journal.specs.Keeping.{begin_acts}
use Rattle.vx_shared.specs.declared.history.Entry.{Entry}
use Rattle.vx_shared.specs.Legal.{done_events}
use Rattle.vx_command_center.specs.Outcome.{append_acts, history_acts, kept_acts, report_line, written_acts}
use Rattle.vx_command_center.proofs.ending.end_center.Goals as goal

-- what is done besides the report, and then the report
with_report : (history : List Entry) (text line : List ℕ) → kept_acts history text ++ Write report_line ∷ Write line ∷ [] ≡ append_acts (done_events history) ++ (history_acts 0 history ++ Write text ∷ Write report_line ∷ Write line ∷ [])
with_report history text line =
    let rest : List Act = Write report_line ∷ Write line ∷ [] in
    append_assoc (append_acts (done_events history)) (history_acts 0 history ++ Write text ∷ []) rest
    ∙ ap (λ (acts : List Act). append_acts (done_events history) ++ acts) (append_assoc (history_acts 0 history) (Write text ∷ []) rest)

pub returns-in_err-begin_journal-clause-done : goal.returns-in_err-begin_journal-clause-done
returns-in_err-begin_journal-clause-done g c =
    let err = err_from_is_err_and c.from_residual.result c.from_residual.ensures.1 in
    let ended = c.args.ended.now in
    rw (err.1 ∙ ap Err err.2)
    (c.acts_in_order.ensures.broken (begin_acts ended.journal)
    (work (append_acts (done_events ended.history) ++ written_acts c.args.election.now ended.journal.center.events ended.history ended.text c.args.moment.now c.args.device.now))
    _ _ _ _ c.in_err-begin_journal.field-0.0 (c.in_err-begin_journal.ensures.done (g.S.Sink.taken c.args.out.now)))

pub returns-in_err-kept-clause-done : goal.returns-in_err-kept-clause-done
returns-in_err-kept-clause-done g c =
    let err = err_from_is_err_and c.from_residual-in_err-kept.result c.from_residual-in_err-kept.ensures.1 in
    let ended = c.args.ended.now in
    let cause = c.in_err-kept.field-0.0 in
    let a : Taken = g.S.Sink.taken c.args.out.now in
    let b : Taken = g.S.Sink.taken c.keep_beside-told.new.out in
    let h : Held = g.K.Keeper.held c.begin_journal.new.keeper in
    let k : Held = g.K.Keeper.held c.keep_beside-told.new.keeper in
    let line : List ℕ = report_of c.args.election.now ended.journal.center.events c.args.moment.now c.args.device.now in
    let Ends : Answer → Type 0 = λ answer. IsDone (work (kept_acts c.as_slice.result.now c.as_slice-2.result.now)) a b h k answer in
    let Lines : List Entry → Type 0 = λ calls. IsDone (work (kept_acts calls c.as_slice-2.result.now)) a b h k (Err cause) in
    let Text : List ℕ → Type 0 = λ text. IsDone (work (kept_acts ended.history text)) a b h k (Err cause) in
    let By : List Act → Type 0 = λ acts. IsDone (work acts) a b h k (Err cause) in
    let kept = subst Text c.as_slice-2.ensures (subst Lines c.as_slice.ensures (subst Ends c.in_err-kept.was c.keep_beside-told.ensures.done)) in
    rw (err.1 ∙ ap Err err.2)
    (c.acts_in_order.ensures.done (begin_acts ended.journal)
    (work (append_acts (done_events ended.history) ++ written_acts c.args.election.now ended.journal.center.events ended.history ended.text c.args.moment.now c.args.device.now))
    _ _ _ _ (c.in_ok-begin_journal.ensures.done a) b k (Err cause)
    (subst By (with_report ended.history ended.text line)
    (c.acts_in_order.ensures.broken (kept_acts ended.history ended.text) (work (Write report_line ∷ (Write line ∷ []))) a b h k cause kept)))

pub returns-clause-done : goal.returns-clause-done
returns-clause-done g c =
    let ended = c.args.ended.now in
    let a : Taken = g.S.Sink.taken c.args.out.now in
    let b : Taken = g.S.Sink.taken c.keep_beside-told.new.out in
    let now : Taken = g.S.Sink.taken c.write_report.new.out in
    let h : Held = g.K.Keeper.held c.begin_journal.new.keeper in
    let k : Held = g.K.Keeper.held c.keep_beside-told.new.keeper in
    let answer = c.write_report.result in
    let line : List ℕ = report_of c.args.election.now ended.journal.center.events c.args.moment.now c.args.device.now in
    let Ends : Answer → Type 0 = λ said. IsDone (work (kept_acts c.as_slice.result.now c.as_slice-2.result.now)) a b h k said in
    let Lines : List Entry → Type 0 = λ calls. IsDone (work (kept_acts calls c.as_slice-2.result.now)) a b h k (Ok tt) in
    let Text : List ℕ → Type 0 = λ text. IsDone (work (kept_acts ended.history text)) a b h k (Ok tt) in
    let By : List Act → Type 0 = λ acts. IsDone (work acts) a now h k answer in
    let kept = subst Text c.as_slice-2.ensures (subst Lines c.as_slice.ensures (subst Ends c.in_ok-kept.was c.keep_beside-told.ensures.done)) in
    c.acts_in_order.ensures.done (begin_acts ended.journal)
    (work (append_acts (done_events ended.history) ++ written_acts c.args.election.now ended.journal.center.events ended.history ended.text c.args.moment.now c.args.device.now))
    _ _ _ _ (c.in_ok-begin_journal.ensures.done a) now k answer
    (subst By (with_report ended.history ended.text line)
    (c.acts_in_order.ensures.done (kept_acts ended.history ended.text) (work (Write report_line ∷ (Write line ∷ []))) a b h k kept now k answer
    (c.write_report.ensures.done line c.keep_beside-told.ensures.told k)))
