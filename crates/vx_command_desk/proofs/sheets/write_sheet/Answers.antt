use Rattle.std.proofs.Common.{ℕ, List, [], ◌∷◌, Err, ap, subst, ◌∙◌}
use Rattle.std.proofs.lemmas.Result.{err_from_is_err_and}
use Rattle.vx_command.specs.Acts.{Write, after}
use Rattle.vx_walk.specs.Steps.{WalksSheet}
use Rattle.vx_command_desk.specs.Setting.{step_of}
use Rattle.vx_command_desk.proofs.SheetActs.{sheet-written}
use Rattle.vx_command_desk.proofs.sheets.write_sheet.Goals as goal

pub returns-in_err-text-clause-done : goal.returns-in_err-text-clause-done
returns-in_err-text-clause-done g c =
    let err = err_from_is_err_and c.from_residual.result c.from_residual.ensures.1 in
    rw (err.1 ∙ ap Err err.2)
    (λ rest held. c.acts_in_order.ensures.no_memory (step_of c.args.setting.now c.args.scan.now c.args.number c.args.first.now c.args.second.now rest) (g.S.Sink.taken c.args.out.now) held)

pub returns-clause-done : goal.returns-clause-done
returns-clause-done g c =
    let Walks : List ℕ → Type 0 = λ text. WalksSheet (after (Write text ∷ [])) (g.S.Sink.taken c.args.out.now) (g.S.Sink.taken c.write_text.new.out) c.write_text.result in
    subst Walks (c.as_slice.ensures ∙ c.in_ok-text.ensures)
    (sheet-written c.acts_in_order.ensures c.as_slice.result.now (g.S.Sink.taken c.args.out.now) (g.S.Sink.taken c.write_text.new.out) c.write_text.result c.write_text.ensures.done)
