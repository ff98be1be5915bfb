use Rattle.std.proofs.Common.{sym}
use Rattle.vx_code.proofs.Fields.{code_at, code_of_bits-of_number}
use Rattle.vx_code.proofs.reading.code_of_number.Goals as goal

pub returns : goal.returns
unfolding code_at
returns c = rw c.kind_of_number.ensures (sym (code_of_bits-of_number c.args.number c.requires))
