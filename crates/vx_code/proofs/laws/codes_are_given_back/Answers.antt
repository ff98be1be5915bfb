use Rattle.vx_code.proofs.Readings.{code_shown_by-boxes_of}
use Rattle.vx_code.proofs.laws.codes_are_given_back.Goals as goal

pub returns : goal.returns
returns c = code_shown_by-boxes_of
