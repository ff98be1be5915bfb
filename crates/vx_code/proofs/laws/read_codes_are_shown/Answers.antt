use Rattle.vx_code.proofs.Read.{code_shown_by-shows}
use Rattle.vx_code.proofs.laws.read_codes_are_shown.Goals as goal

pub returns : goal.returns
returns c = code_shown_by-shows
