use Rattle.vx_bits.proofs.Packing.{written_same, written_other}
use Rattle.vx_bits.proofs.packed.put.Goals as goal

pub returns-clause-same : goal.returns-clause-same
returns-clause-same c = written_same c.args.rows.now c.args.start c.args.x c.with_bit-byte.result c.args.dark c.requires c.with_bit-byte.ensures.same

pub returns-clause-others : goal.returns-clause-others
returns-clause-others c = written_other c.args.rows.now c.args.start c.args.x c.with_bit-byte.result c.requires c.with_bit-byte.ensures.others
