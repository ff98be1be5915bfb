use Rattle.std.proofs.Common.{List, ℕ, [], ◌∷◌, Err, ap, subst, ◌∙◌}
use Rattle.std.proofs.lemmas.Result.{err_from_is_err_and}
use Rattle.vx_command.specs.Acts.{Write}
use Rattle.vx_command.specs.Done.{IsWritten}
use Rattle.vx_walk.specs.Walk.{scans_outcome}
use Rattle.vx_command_desk.specs.Outcome.{opening_text}
use Rattle.vx_command_desk.specs.Setting.{ending_of, step_of}
use Rattle.vx_command_desk.proofs.command.write_page.Goals as goal

pub returns-clause-done : goal.returns-clause-done
returns-clause-done g c files told held =
    let Done : List (List ℕ) → Type 0 = λ scans. IsWritten (scans_outcome (step_of c.args.setting.now) (ending_of c.args.setting.now) files 3 0 [] scans)
    (g.S.Sink.taken c.open_page.new.out) (g.S.Sink.taken c.walk_scans.new.out) c.walk_scans.result in
    c.acts_in_order.ensures.done (Write (opening_text c.args.setting.now.election.now c.args.setting.now.batch.now) ∷ [])
    (scans_outcome (step_of c.args.setting.now) (ending_of c.args.setting.now) files 3 0 [] c.args.scans.now)
    (g.S.Sink.taken c.args.out.now) (g.S.Sink.taken c.open_page.new.out) held held (c.in_ok-open_page.ensures.done held)
    (g.S.Sink.taken c.walk_scans.new.out) held c.walk_scans.result
    (subst Done c.as_slice.ensures (c.walk_scans.ensures.done files told) held)

pub returns-in_err-open_page-clause-done : goal.returns-in_err-open_page-clause-done
returns-in_err-open_page-clause-done g c files told held =
    let err = err_from_is_err_and c.from_residual.result c.from_residual.ensures.1 in
    rw (err.1 ∙ ap Err err.2)
    (c.acts_in_order.ensures.broken (Write (opening_text c.args.setting.now.election.now c.args.setting.now.batch.now) ∷ [])
    (scans_outcome (step_of c.args.setting.now) (ending_of c.args.setting.now) files 3 0 [] c.args.scans.now)
    (g.S.Sink.taken c.args.out.now) (g.S.Sink.taken c.open_page.new.out) held held c.in_err-open_page.field-0.0 (c.in_err-open_page.ensures.done held))
