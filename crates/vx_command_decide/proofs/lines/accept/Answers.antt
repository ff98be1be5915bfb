use Rattle.std.proofs.Common.{◌≡◌, ◌∙◌, true, false, Err, sym, ap, refl, rules}
use Rattle.std.proofs.lemmas.Result.{err_from_is_err_and}
use Rattle.vx_center.specs.Replies.{is_done}
use Rattle.vx_journal.specs.declared.journal.Journal.{Journal}
use Rattle.vx_journal.specs.Keeping.{reply_in}
use Rattle.vx_command_decide.proofs.Accepted.{is_refused, not_kept, recorded_late, then_written}
use Rattle.vx_command_decide.proofs.lines.accept.Goals as goal

pub returns-in_err-refusal-clause-done : goal.returns-in_err-refusal-clause-done
returns-in_err-refusal-clause-done g c =
    let err = err_from_is_err_and c.from_residual.result c.from_residual.ensures.1 in
    rw (err.1 ∙ ap Err err.2)
    (not_kept c.acts_in_order.ensures c.args.journal.now c.args.number c.args.event.now _ _ _ (ap is_done c.in_err-refusal.ensures.no_refusal) c.in_err-refusal.field-0.0 c.in_err-refusal.ensures.done)

pub returns-in_err-refusal-clause-late : goal.returns-in_err-refusal-clause-late
returns-in_err-refusal-clause-late g c =
    let err = err_from_is_err_and c.from_residual.result c.from_residual.ensures.1 in
    rw (err.1 ∙ ap Err err.2) (recorded_late _ _ _ c.in_err-refusal.field-0.0 c.in_err-refusal.ensures.done)

pub returns-in-Done-clause-done : goal.returns-in-Done-clause-done
returns-in-Done-clause-done g c =
    let done : is_done (reply_in c.args.journal.now c.args.event.now) ≡ true = ap is_done (sym c.in_ok-refusal.ensures.reply ∙ c.in-Done.is) in
    then_written c.acts_in_order.ensures c.args.journal.now c.args.number c.args.event.now _ _ _ done c.in_ok-refusal.ensures.done c.keep_event.new.journal.center.events (ap (λ (journal : Journal). journal.center.events) c.in_ok-refusal.ensures.next) _ c.write_done.result c.write_done.ensures.done

pub returns-in_default : goal.returns-in_default
returns-in_default g c =
    let refused : is_done (reply_in c.args.journal.now c.args.event.now) ≡ false = ap is_done (sym c.in_ok-refusal.ensures.reply) ∙ c.replies_are_done_or_refuse.ensures.refused c.in_ok-refusal.refusal c.in_default.not-Done in
    record {
      done = λ next. rw c.in_ok-refusal.ensures.reply (is_refused c.acts_in_order.ensures c.args.journal.now c.args.number c.args.event.now _ _ _ refused c.in_ok-refusal.ensures.done next);
      election = tt;
      devices = record {
        sink = search rules;
        keeper = c.in_ok-refusal.ensures.keeper.keeper;
        no_read_fault = refl;
      };
      late = refl;
    }
