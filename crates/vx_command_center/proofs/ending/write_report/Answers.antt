use Rattle.std.proofs.Common.{◌≡◌, List, ℕ, [], ◌∷◌, Result, Err, ap, subst, ◌∙◌}
use Rattle.std.specs.Prelude.{IfOk}
use Rattle.std.specs.declared.alloc.AllocError.{AllocError}
use Rattle.std.proofs.lemmas.Result.{err_from_is_err_and}
use Rattle.vx_command.specs.declared.halt.Halt.TheVariants.{NoMemory}
use Rattle.vx_command.specs.Acts.{Write, work, writing}
use Rattle.vx_command.specs.Done.{IsDone}
use Rattle.vx_command_center.specs.Outcome.{report_line}
use Rattle.vx_command_center.proofs.ending.write_report.Goals as goal

pub returns-in_err-write_text-clause-done : goal.returns-in_err-write_text-clause-done
returns-in_err-write_text-clause-done g c line told held =
    let err = err_from_is_err_and c.from_residual.result c.from_residual.ensures.1 in
    rw (err.1 ∙ ap Err err.2)
    (c.acts_in_order.ensures.broken (Write report_line ∷ []) (work (Write line ∷ [])) _ _ held held c.in_err-write_text.field-0.0 (c.in_err-write_text.ensures.done held))

pub returns-in_err-text-clause-done : goal.returns-in_err-text-clause-done
returns-in_err-text-clause-done g c line told held =
    let err = err_from_is_err_and c.from_residual-in_err-text.result c.from_residual-in_err-text.ensures.1 in
    let now = g.S.Sink.taken c.write_text.new.out in
    rw (err.1 ∙ ap Err err.2)
    (c.acts_in_order.ensures.done (Write report_line ∷ []) (work (Write line ∷ [])) _ _ held held (c.in_ok-write_text.ensures.done held) now held (Err NoMemory)
    (c.acts_in_order.ensures.no_memory (work (Write line ∷ [])) now held))

pub returns-clause-done : goal.returns-clause-done
returns-clause-done g c line told held =
    let b = g.S.Sink.taken c.write_text.new.out in
    let now = g.S.Sink.taken c.write_text-2.new.out in
    let answer = c.write_text-2.result in
    let Told : Result (List ℕ) AllocError → Type 0 = λ said. IfOk said (λ text. text ≡ line) in
    let is : c.in_ok-text.text ≡ line = subst Told c.in_ok-text.was told in
    let Text : List ℕ → Type 0 = λ text. IsDone (writing text) b now held held answer in
    c.acts_in_order.ensures.done (Write report_line ∷ []) (work (Write line ∷ [])) _ _ held held (c.in_ok-write_text.ensures.done held) now held answer
    (subst Text (c.as_slice.ensures ∙ is) (c.write_text-2.ensures.done held))
