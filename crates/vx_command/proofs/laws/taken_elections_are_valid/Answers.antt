use Rattle.vx_command.proofs.Read.{read-valid}
use Rattle.vx_command.proofs.laws.taken_elections_are_valid.Goals as goal

pub returns : goal.returns
returns c = read-valid c.defined_elections_are_valid.ensures
