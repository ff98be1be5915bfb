use Rattle.vx_cvr.proofs.Keyed.{row-added}
use Rattle.vx_cvr.proofs.laws.each_row_is_of_a_sheet.Goals as goal

pub returns : goal.returns
returns c = row-added
