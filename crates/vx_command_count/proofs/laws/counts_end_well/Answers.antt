use Rattle.vx_command_count.proofs.Ends.{count-ends}
use Rattle.vx_command_count.proofs.laws.counts_end_well.Goals as goal

pub returns : goal.returns
returns c = count-ends
