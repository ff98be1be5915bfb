use Rattle.std.proofs.Common.{[], ◌∷◌}
use Rattle.vx_base.proofs.Booleans.{not-both}
use Rattle.vx_audit.specs.Totals.{totals_text}
use Rattle.vx_audit.specs.Outcome.{asked_outcome, writes}
use Rattle.vx_audit.specs.Words.{Totals}
use Rattle.vx_audit.proofs.Acts.{asked_front, comes_done}
use Rattle.vx_audit.proofs.top.totals.Goals as goal

pub returns-in-Ok-clause-done : goal.returns-in-Ok-clause-done
returns-in-Ok-clause-done g c files told =
    let taken = g.S.Sink.taken c.args.out.now in
    comes_done (asked_outcome (Totals c.args.name.now) files) (writes (totals_text c.in-Ok.report)) taken (g.S.Sink.taken c.write_totals-done.new.out)
    c.write_totals-done.result (c.in-Ok.ensures.done files told taken (λ given. writes (totals_text given))) c.write_totals-done.ensures.done

pub returns-in-Err-clause-done : goal.returns-in-Err-clause-done
returns-in-Err-clause-done g c files told =
    c.in-Err.ensures.done files told (g.S.Sink.taken c.args.out.now) (λ given. writes (totals_text given))

pub returns-in-Ok-clause-nothing_written : goal.returns-in-Ok-clause-nothing_written
returns-in-Ok-clause-nothing_written g c never = absurd (not-both _ c.write_totals-done.ensures.late never)

pub returns-in-Err-clause-asked : goal.returns-in-Err-clause-asked
returns-in-Err-clause-asked g c =
    asked_front g.I.Inputs (c.args.name.now ∷ []) c.args.inputs.now c.take_report.new.inputs c.in-Err.status c.in-Err.ensures.inputs.no_end
    c.in-Err.ensures.asked
