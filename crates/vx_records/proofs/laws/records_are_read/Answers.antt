use Rattle.vx_records.proofs.Longest as proved
use Rattle.vx_records.proofs.laws.records_are_read.Goals as goal

pub returns : goal.returns
returns c = proved.records_are_read
