use Rattle.std.proofs.Common.{sym, subst}
use Rattle.std.specs.Prelude.{Result, Ok, Err}
use Rattle.vx_scan_model.specs.declared.reading.PageReading.{PageReading}
use Rattle.vx_scan_model.specs.declared.fault.PageFault.{PageFault}
use Rattle.vx_page.specs.Named.{GivesOnPlan}
use Rattle.vx_page.proofs.Answered.{upright-traced}
use Rattle.vx_page.proofs.page.read_upright.Goals as goal

pub returns-in-Ok : goal.returns-in-Ok
returns-in-Ok c =
    subst (λ (defined : Result PageReading PageFault). GivesOnPlan c.args.election.now defined c.read_marked.result)
    (sym (upright-traced c.a_border_is_the_border.ensures c.args.election.now c.args.counter.now (Ok c.in-Ok.border) c.requires.allowed c.in-Ok.ensures.border))
    c.read_marked.ensures

pub returns-in-Err : goal.returns-in-Err
returns-in-Err c =
    upright-traced c.a_border_is_the_border.ensures c.args.election.now c.args.counter.now (Err c.in-Err.fault) c.requires.allowed c.in-Err.ensures.border
