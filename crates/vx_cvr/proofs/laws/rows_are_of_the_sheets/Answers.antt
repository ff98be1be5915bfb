use Rattle.vx_cvr.proofs.Keyed.{rows-of-sheets}
use Rattle.vx_cvr.proofs.laws.rows_are_of_the_sheets.Goals as goal

pub returns : goal.returns
returns c = rows-of-sheets
