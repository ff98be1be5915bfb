use Rattle.std.proofs.Common.{Err, sym, ap, ◌∙◌}
use Rattle.std.proofs.lemmas.Result.{err_from_is_err_and}
use Rattle.vx_base.proofs.Results.{Gives-same}
use Rattle.vx_plane.specs.Plane.{Page}
use Rattle.vx_check.specs.Tests.{tested}
use Rattle.vx_command.specs.Steps.{is_no_memory}
use Rattle.vx_command_check.specs.Answers.{reading_halt}
use Rattle.vx_command_check.proofs.PageActs.{checked-halt, checked-on}
use Rattle.vx_command_check.proofs.page.check_reading.Goals as goal

pub returns-in_err-reading_halt : goal.returns-in_err-reading_halt
returns-in_err-reading_halt c =
    let err = err_from_is_err_and c.from_residual-in_err-reading_halt.result c.from_residual-in_err-reading_halt.ensures.1 in
    let election = c.args.election.now in
    let said = c.args.said.now in
    Gives-same is_no_memory c.from_residual-in_err-reading_halt.result _
    (checked-halt election c.args.number c.args.image.now said c.in_err-reading_halt.field-0.0
    (ap (λ (page : Page). reading_halt c.args.number (tested election page said.reading)) (sym c.in_ok-counter.ensures)
    ∙ ap (reading_halt c.args.number) (sym c.check-tested.ensures.exact)
    ∙ sym c.reading_halt.ensures ∙ c.in_err-reading_halt.was)
    ∙ sym (err.1 ∙ ap Err err.2))

pub returns : goal.returns
returns c =
    let election = c.args.election.now in
    let said = c.args.said.now in
    Gives-same is_no_memory c.check_names.result _
    (checked-on election c.args.number c.args.image.now said
    (ap (λ (page : Page). reading_halt c.args.number (tested election page said.reading)) (sym c.in_ok-counter.ensures)
    ∙ ap (reading_halt c.args.number) (sym c.check-tested.ensures.exact)
    ∙ sym c.reading_halt.ensures ∙ c.in_ok-reading_halt.was)
    ∙ sym c.check_names.ensures)
