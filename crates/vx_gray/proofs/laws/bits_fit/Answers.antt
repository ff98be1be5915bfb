use Rattle.std.proofs.Common.{sym, subst}
use Rattle.vx_plane.specs.Plane.{Page}
use Rattle.vx_scan_model.specs.Fits.{Fits}
use Rattle.vx_gray.proofs.Light.{bits_shown}
use Rattle.vx_gray.proofs.laws.bits_fit.Goals as goal

pub returns-clause-shown : goal.returns-clause-shown
returns-clause-shown c = bits_shown

pub returns-clause-fit : goal.returns-clause-fit
returns-clause-fit c election gray printed plan marks fits =
    subst (λ (scan : Page). Fits election scan printed plan marks) (sym (bits_shown gray fits.scan fits.whole fits.shows)) fits.fits
