use Rattle.std.proofs.Common.{◌++◌, ◌∙◌, ℕ, List, ap}
use Rattle.std.specs.Fmt.{decimal}
use Rattle.vx_cvr.proofs.Added.{add, at_ok}
use Rattle.vx_cvr.proofs.Escaped.{hyphened-text}
use Rattle.vx_cvr.proofs.escape.push_numbered.Goals as goal

pub returns : goal.returns
returns c =
    at_ok c.push_digits.result _ _ c.push_digits.ensures
    (λ last.
    add c.args.text.now _ _ c.push_text.new.text _ c.in_ok-push_text.ensures
    (add c.push_text.new.text _ _ c.push_bytes.new.text _ c.in_ok-push_bytes.ensures last)
    ∙ ap (λ (text : List ℕ). c.args.text.now ++ text) (hyphened-text c.args.name.now (decimal c.args.number)))
