use Rattle.std.proofs.Common.{arith}
use Rattle.vx_bits.proofs.Packing.{packed-row_at}
use Rattle.vx_bits.proofs.view.BitView.row_bytes.Goals as goal

pub returns-clause-pixels : goal.returns-clause-pixels
returns-clause-pixels c =
    packed-row_at c.self.inside.width c.self.inside.height c.args.v c.stride-size.result _ c.self.inside.rows.now c.args.self.now
    c.self.view_is c.requires c.stride-size.ensures (omega arith)
