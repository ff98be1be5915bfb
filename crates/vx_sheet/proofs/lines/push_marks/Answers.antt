use Rattle.std.proofs.Common.{ℕ, List, ◌++◌, ◌∙◌, ap₂, string_bytes}
use Rattle.vx_election_model.specs.declared.reason.ReasonSet.{ReasonSet}
use Rattle.vx_sheet.specs.Lines.{reason_lines}
use Rattle.vx_sheet.proofs.lines.push_marks.Goals as goal

pub returns : goal.returns
returns c =
    c.in_ok-push_reasons.ensures
    ∙ ap₂ (λ (contest : List ℕ) (set : ReasonSet). string_bytes c.args.text.now ++ reason_lines c.args.batch.now c.args.number contest set)
    c.as_str.ensures c.reasons-set.ensures.exact
