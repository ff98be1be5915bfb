use Rattle.std.proofs.Common.{◌≡◌, Ok, Err, sym, ap, subst, ◌∙◌, true, false, List, ℕ}
use Rattle.std.proofs.lemmas.Result.{err_from_is_err_and}
use Rattle.vx_base.specs.Refusals.{Gives}
use Rattle.vx_plane.specs.Plane.{Page as Bitmap}
use Rattle.vx_command.specs.Steps.{is_no_memory}
use Rattle.vx_command_check.specs.Answers.{page_answer}
use Rattle.vx_command.specs.Acts.{Answer, writing}
use Rattle.vx_command.specs.Done.{IsWritten}
use Rattle.vx_command.specs.Devices.{TouchesSink, writes_nothing}
use Rattle.vx_command_check.specs.Walks.{ChecksPage}
use Rattle.vx_command_check.proofs.PageActs.{gives-verdict, verdict-sink, verdict-late, line-missing, line-written}
use Rattle.vx_command_check.proofs.page.check_page.Goals as goal

pub returns-in_err-line-clause-sink : goal.returns-in_err-line-clause-sink
returns-in_err-line-clause-sink g c =
    let gives = subst (λ (page : Bitmap). Gives {A = List ℕ} is_no_memory (Err c.in_err-line.field-0.0) (page_answer c.args.election.now c.args.number page c.args.said)) c.view.ensures c.in_err-line.ensures in
    let err = err_from_is_err_and c.from_residual.result c.from_residual.ensures.1 in
    let verdict = gives-verdict c.args.election.now c.args.number c.args.image c.args.said c.in_err-line.field-0.0 gives in
    subst (λ (answer : Answer). TouchesSink g.S.Sink c.args.out.now c.args.out.now answer) (sym (err.1 ∙ ap Err err.2))
    (verdict-sink g.S.Sink c.in_err-line.field-0.0 c.args.out.now verdict)

pub returns-in_err-line-clause-late : goal.returns-in_err-line-clause-late
returns-in_err-line-clause-late g c =
    let gives = subst (λ (page : Bitmap). Gives {A = List ℕ} is_no_memory (Err c.in_err-line.field-0.0) (page_answer c.args.election.now c.args.number page c.args.said)) c.view.ensures c.in_err-line.ensures in
    let err = err_from_is_err_and c.from_residual.result c.from_residual.ensures.1 in
    let verdict = gives-verdict c.args.election.now c.args.number c.args.image c.args.said c.in_err-line.field-0.0 gives in
    subst (λ (answer : Answer). writes_nothing true answer ≡ false) (sym (err.1 ∙ ap Err err.2)) (verdict-late c.in_err-line.field-0.0 verdict)

pub returns-in_err-line-clause-checks : goal.returns-in_err-line-clause-checks
returns-in_err-line-clause-checks g c =
    let gives = subst (λ (page : Bitmap). Gives {A = List ℕ} is_no_memory (Err c.in_err-line.field-0.0) (page_answer c.args.election.now c.args.number page c.args.said)) c.view.ensures c.in_err-line.ensures in
    let err = err_from_is_err_and c.from_residual.result c.from_residual.ensures.1 in
    let taken = g.S.Sink.taken c.args.out.now in
    subst (λ (answer : Answer). ChecksPage c.args.election.now c.args.number c.args.image c.args.said taken taken answer) (sym (err.1 ∙ ap Err err.2))
    (line-missing c.acts_in_order.ensures c.steps_in_order.ensures c.args.election.now c.args.number c.args.image c.args.said taken taken
    c.in_err-line.field-0.0 gives)

pub returns-clause-checks : goal.returns-clause-checks
returns-clause-checks g c =
    let a = g.S.Sink.taken c.args.out.now in
    let b = g.S.Sink.taken c.write_text.new.out in
    line-written c.acts_in_order.ensures c.steps_in_order.ensures c.args.election.now c.args.number c.args.image c.args.said a b
    c.in_ok-line.line
    (subst (λ (page : Bitmap). page_answer c.args.election.now c.args.number page c.args.said ≡ Ok c.in_ok-line.line) c.view.ensures c.in_ok-line.ensures) c.write_text.result
    (subst (λ (line : List ℕ). IsWritten (writing line) a b c.write_text.result) c.as_slice.ensures c.write_text.ensures.done)
