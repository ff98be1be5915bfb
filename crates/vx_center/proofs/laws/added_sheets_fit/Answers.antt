use Rattle.vx_center.proofs.Finding.{added-fits}
use Rattle.vx_center.proofs.laws.added_sheets_fit.Goals as goal

pub returns : goal.returns
returns c election kept place added history there =
    let fits = added-fits election kept place added history there in
    record { key = fits.0; sheet = fits.1 }
