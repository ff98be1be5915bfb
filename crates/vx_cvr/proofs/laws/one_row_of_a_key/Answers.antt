use Rattle.vx_cvr.proofs.Keyed.{one-row}
use Rattle.vx_cvr.proofs.laws.one_row_of_a_key.Goals as goal

pub returns : goal.returns
returns c = one-row
