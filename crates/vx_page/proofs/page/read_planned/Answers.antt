use Rattle.std.proofs.Common.{ap₂, ◌∙◌, sym, ℕ}
use Rattle.std.specs.Prelude.{Result, Err}
use Rattle.vx_scan_model.specs.declared.reading.PageReading.{PageReading}
use Rattle.vx_scan_model.specs.declared.fault.PageFault.{PageFault}
use Rattle.vx_scan_model.specs.declared.fault.PageFault.TheVariants.{FrameSize}
use Rattle.vx_page.proofs.Answered.{reading-not_allowed}
use Rattle.vx_page.proofs.page.read_planned.Goals as goal

pub returns-else-is_allowed : goal.returns-else-is_allowed
returns-else-is_allowed c =
    let size : ℕ → ℕ → Result PageReading PageFault = λ width height. Err (FrameSize width height) in
    reading-not_allowed c.args.election.now c.args.page.now (sym c.if-is_allowed.ensures)
    ∙ ap₂ size (sym c.width.ensures.value) (sym c.height.ensures.value)
