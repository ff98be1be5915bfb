use Rattle.std.proofs.Common.{◌≡◌, false, refl, ap, ◌∙◌, sym, Err, rules}
use Rattle.std.proofs.lemmas.Result.{err_from_is_err_and}
use Rattle.vx_refusals.specs.declared.reply.Reply.{Reply}
use Rattle.vx_center.specs.Kept.{Kept}
use Rattle.vx_center.specs.Replies.{is_done}
use Rattle.vx_journal.specs.declared.journal.Journal.{Journal}
use Rattle.vx_journal.specs.Keeping.{reply_in}
use Rattle.vx_journal.proofs.Recorded.{no_memory_to_append, nothing_to_do}
use Rattle.vx_journal.proofs.keeping.keep_event.Goals as goal

pub returns-in_err-refusal-clause-done : goal.returns-in_err-refusal-clause-done
returns-in_err-refusal-clause-done g c =
    let err = err_from_is_err_and c.from_residual.result c.from_residual.ensures.1 in
    rw (err.1 ∙ ap Err err.2) (no_memory_to_append _ _ _ refl)

pub returns-in_default : goal.returns-in_default
returns-in_default g c =
    let refused : is_done (reply_in c.args.journal.now c.args.event.now) ≡ false = ap is_done (sym c.in_ok-refusal.ensures.reply) ∙ c.replies_are_done_or_refuse.ensures.refused c.in_ok-refusal.refusal c.in_default.not-Done in
    record {
      reply = c.in_ok-refusal.ensures.reply;
      next = ap (λ (center : Kept). let journal : Journal = record { center = center; is_new = c.args.journal.now.is_new } in journal) c.in_ok-refusal.ensures.next;
      no_refusal = tt;
      done = rw refused (nothing_to_do _);
      keeper = search rules;
    }
