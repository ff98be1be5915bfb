use Rattle.std.proofs.Common.{◌≡◌, ℕ, List, [], ◌∷◌, true, Bool, cond, refl, ap, subst, ◌∙◌, sym, Err}
use Rattle.std.proofs.lemmas.Result.{err_from_is_err_and}
use Rattle.vx_command.specs.Acts.{Append}
use Rattle.vx_journal.specs.Steps.{IsRecorded}
use Rattle.vx_records.specs.Records.{header_of}
use Rattle.vx_election_model.specs.declared.election.Election.{Election}
use Rattle.vx_journal.proofs.Recorded.{no_memory_to_append, nothing_to_do}
use Rattle.vx_journal.proofs.keeping.begin_journal.Goals as goal

pub returns-in_err-body-clause-done : goal.returns-in_err-body-clause-done
returns-in_err-body-clause-done g c =
    let err = err_from_is_err_and c.from_residual.result c.from_residual.ensures.1 in
    rw (err.1 ∙ ap Err err.2) (no_memory_to_append _ _ _ refl)

pub returns-in_ok-body-clause-done : goal.returns-in_ok-body-clause-done
returns-in_ok-body-clause-done g c =
    let Kept : List ℕ → Type 0 = λ body. IsRecorded (Append body ∷ []) (g.K.Keeper.held c.args.keeper.now) (g.K.Keeper.held c.append.new.keeper) c.append.result in
    let same : c.as_slice.result.now ≡ header_of c.args.journal.now.center.election = c.as_slice.ensures ∙ c.in_ok-body.ensures ∙ ap (λ (election : Election). header_of election) (sym c.requires) in
    rw c.if-journal.true (subst Kept same c.append.ensures.done)

pub returns-else-journal-clause-done : goal.returns-else-journal-clause-done
returns-else-journal-clause-done g c = rw c.if-journal.false (nothing_to_do _)
