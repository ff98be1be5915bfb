use Rattle.std.proofs.Common.{◌≡◌, ℕ, List, subst}
use Rattle.std.specs.Prelude.{IfOk, string_bytes}
use Rattle.vx_results.proofs.Recorded.{results_told}
use Rattle.vx_results.proofs.telling.results_text.Goals as goal

pub returns : goal.returns
returns c =
    subst (λ (whole : List ℕ). IfOk c.text_of-text.result (λ text. string_bytes text ≡ whole))
    (results_told c.args.election.now c.args.center.now.events c.rows_are_of_the_sheets.ensures c.sums_are_of_any_order.ensures c.in_ok-counted.counted
    c.in_ok-counted.ensures) c.text_of-text.ensures
