use Rattle.std.proofs.Common.{rules, ◌≡◌, ◌++◌, ℕ, List, ap, ◌∙◌}
use Rattle.serde_json.specs.Written.{comma_if, compact_text}
use Rattle.vx_cvr.specs.Pieces.{sheet_piece}
use Rattle.vx_cvr.specs.Report.{sheet}
use Rattle.vx_cvr.proofs.sheets.row_piece.Goals as goal

pub returns : goal.returns
unfolding sheet_piece
returns c =
    let begun : c.push_comma.new.text ≡ comma_if c.args.is_later = search rules in
    c.in_ok-push_sheet.ensures ∙ ap (λ (text : List ℕ). text ++ compact_text (sheet c.args.election.now c.args.row.now)) begun
