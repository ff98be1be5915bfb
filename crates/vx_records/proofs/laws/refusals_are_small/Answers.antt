use Rattle.vx_records.proofs.Longest as proved
use Rattle.vx_records.proofs.laws.refusals_are_small.Goals as goal

pub returns : goal.returns
returns c = proved.refusals_are_small
