use Rattle.std.proofs.Common.{◌≡◌, ◌++◌, take}
use Rattle.std.specs.Prelude.{string_bytes}
use Rattle.std.specs.List.{flat_map}
use Rattle.vx_results.specs.Summary.{batch_text}
use Rattle.vx_results.specs.Sums.{kept_texts, sum_at}
use Rattle.vx_results.proofs.text_lines.push_batches.Given as goal

abbrev pub invariant-loop-place : goal.invariant-loop-place
invariant-loop-place l =
    string_bytes l.text ≡ string_bytes l.initial.text ++ flat_map (batch_text (sum_at l.sheets) (sum_at l.waits)) (take l.place (kept_texts l.sheets))
