use Rattle.vx_scan_model.specs.Fits.{FittingScansAreRead}
use Rattle.vx_scan_model.proofs.TurnedRead.{fits-read}
use Rattle.vx_scan_model.proofs.Once.{fits-one}
use Rattle.vx_scan_model.proofs.laws.fitting_scans_are_read.Goals as goal

pub returns : goal.returns
returns c =
    let read : FittingScansAreRead = λ election scan printed plan marks valid whole fits.
    fits-read c.laws_below.ensures.upright c.laws_below.ensures.turned election valid scan whole printed plan marks fits in
    record { read = read; one = fits-one read }
