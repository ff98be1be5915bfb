use Rattle.vx_code.proofs.Readings.{code_shown_by-no_bit}
use Rattle.vx_code.proofs.laws.no_bit_is_refused.Goals as goal

pub returns : goal.returns
returns c = code_shown_by-no_bit
