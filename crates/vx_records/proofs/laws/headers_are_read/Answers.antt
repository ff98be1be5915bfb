use Rattle.vx_records.proofs.Longest as proved
use Rattle.vx_records.proofs.laws.headers_are_read.Goals as goal

pub returns : goal.returns
returns c = proved.headers_are_read
