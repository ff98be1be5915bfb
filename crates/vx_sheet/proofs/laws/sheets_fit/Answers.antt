use Rattle.vx_sheet.proofs.Whole.{fits-election}
use Rattle.vx_sheet.proofs.laws.sheets_fit.Goals as goal

pub returns : goal.returns
returns c = fits-election c.plans_are_numbered.ensures c.plans_stand_on_the_grid.ensures
