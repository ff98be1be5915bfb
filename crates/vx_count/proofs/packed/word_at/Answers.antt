use Rattle.std.proofs.Common.{arith}
use Rattle.vx_count.proofs.Runs.{word-at}
use Rattle.vx_count.proofs.packed.word_at.Goals as goal

pub returns : goal.returns
returns c = word-at c.args.bytes.now c.args.at c.from_be_bytes.result c.from_be_bytes.ensures (λ i. omega (arith, c.type_inv.bytes i))
