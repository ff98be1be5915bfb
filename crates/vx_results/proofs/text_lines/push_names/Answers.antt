use Rattle.std.specs.Prelude.{string_bytes}
use Rattle.vx_results.specs.Summary.{name_text}
use Rattle.vx_results.specs.Sums.{kept_texts, sum_at}
use Rattle.vx_results.proofs.Walked.{laid_next}
use Rattle.vx_results.proofs.text_lines.push_names.Goals as goal

pub loop-place-preserved : goal.loop-place-preserved
loop-place-preserved c =
    laid_next (name_text c.args.contest.now (sum_at c.args.names.now)) (kept_texts c.args.names.now) c.loop-place.place c.text_at.result.now c.text_at.ensures
    (string_bytes c.args.text.now) (string_bytes c.loop-place.text) (string_bytes c.push_name.new.text) c.loop-place.invariant c.in_ok-push_name.ensures
