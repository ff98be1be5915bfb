use Rattle.std.proofs.Common.{refl, ap, ◌∙◌, sym, Err}
use Rattle.std.proofs.lemmas.Result.{err_from_is_err_and}
use Rattle.vx_journal.proofs.Recorded.{no_memory_to_append}
use Rattle.vx_journal.proofs.keeping.append_event.Goals as goal

pub returns-in_err-body-clause-done : goal.returns-in_err-body-clause-done
returns-in_err-body-clause-done g c =
    let err = err_from_is_err_and c.from_residual.result c.from_residual.ensures.1 in
    rw (err.1 ∙ ap Err err.2) (no_memory_to_append _ _ _ refl)
