use Rattle.vx_sheet.proofs.Fitting.{sheets-read}
use Rattle.vx_sheet.proofs.laws.fitting_sheets_are_read.Goals as goal

pub returns : goal.returns
returns c = sheets-read c.fitting_scans_are_read.ensures.read
