use Rattle.std.proofs.Common.{◌≡◌, [], subst}
use Rattle.std.specs.Prelude.{MatchBool}
use Rattle.vx_readings.specs.Left.{LinesLeft}
use Rattle.vx_readings.proofs.Parts.{lines_of-tested}
use Rattle.vx_readings.proofs.lines.Lines.is_empty.Goals as goal

pub returns : goal.returns
returns c =
    subst (λ (left : LinesLeft). MatchBool c.is_empty.result (left.lines ≡ []) (left.lines ≡ [] → ⊥)) c.self.view_is
    (lines_of-tested c.is_empty.result c.self.inside.text.now c.is_empty.ensures)
