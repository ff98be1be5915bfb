use Rattle.std.proofs.Common.{◌≡◌, [], subst, refl, sym, ◌∙◌}
use Rattle.vx_base.proofs.Numbers.{equal-from_yes}
use Rattle.vx_readings.specs.declared.fault.ReadingsFault.TheVariants.{Line}
use Rattle.vx_readings.specs.Left.{LinesLeft}
use Rattle.vx_readings.proofs.Parts.{lines_of-empty}
use Rattle.vx_readings.proofs.lines.Lines.split.Goals as goal

pub returns-then-is_empty : goal.returns-then-is_empty
returns-then-is_empty c =
    subst (λ (left : LinesLeft). (left.lines ≡ []) × (Line c.self.inside.number ≡ Line left.number)) c.self.view_is
    (lines_of-empty c.self.inside.text.now (equal-from_yes _ 0 (sym c.is_empty.ensures ∙ c.if-is_empty.true)), refl)
