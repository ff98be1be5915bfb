use Rattle.std.specs.Prelude.{string_bytes}
use Rattle.vx_results.specs.Summary.{batch_text}
use Rattle.vx_results.specs.Sums.{kept_texts, sum_at}
use Rattle.vx_results.proofs.Walked.{laid_next}
use Rattle.vx_results.proofs.text_lines.push_batches.Goals as goal

pub loop-place-preserved : goal.loop-place-preserved
loop-place-preserved c =
    laid_next (batch_text (sum_at c.args.sheets.now) (sum_at c.args.waits.now)) (kept_texts c.args.sheets.now) c.loop-place.place c.text_at.result.now c.text_at.ensures
    (string_bytes c.args.text.now) (string_bytes c.loop-place.text) (string_bytes c.push_batch.new.text) c.loop-place.invariant c.in_ok-push_batch.ensures
