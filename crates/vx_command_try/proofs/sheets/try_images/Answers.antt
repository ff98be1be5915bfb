use Rattle.std.proofs.Common.{◌*◌, ◌-◌, Result, subst}
use Rattle.vx_scan_model.specs.declared.fault.PageFault.{PageFault}
use Rattle.vx_scan_model.specs.declared.reading.PageReading.{PageReading}
use Rattle.vx_sheet.specs.Came.{sheet_read}
use Rattle.vx_walk.specs.Steps.{WalksSheet}
use Rattle.vx_command_try.specs.Outcome.{sheet_outcome}
use Rattle.vx_command_try.proofs.sheets.try_images.Goals as goal

pub returns-clause-done : goal.returns-clause-done
returns-clause-done g c =
    let election = c.args.setting.now.election.now in
    let Walks : Result PageReading PageFault → Result PageReading PageFault → Type 0 = λ first second.
    WalksSheet (sheet_outcome c.args.number (sheet_read election (2 * c.args.number - 1) first second)) (g.S.Sink.taken c.args.out.now) (g.S.Sink.taken c.try_pair.new.out) c.try_pair.result in
    let First : Result PageReading PageFault → Type 0 = λ first. Walks first c.in_ok-second_read.second_read in
    subst (Walks _) c.in_ok-second_read.ensures.is (subst First c.in_ok-first_read.ensures.is c.try_pair.ensures.done)
