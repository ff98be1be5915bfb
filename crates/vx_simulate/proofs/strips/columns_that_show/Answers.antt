use Rattle.std.proofs.Common.{◌+◌, ◌*◌, ◌==◌, ap, ◌∙◌}
use Rattle.vx_geom.specs.Slants.{slant_of}
use Rattle.vx_simulate.proofs.Columns.{more-bits, one-from_bool}
use Rattle.vx_simulate.proofs.strips.columns_that_show.Goals as goal

pub loop-i-preserved : goal.loop-i-preserved
loop-i-preserved c =
    more-bits (slant_of c.args.shear) c.args.k c.args.row c.loop-i.i c.loop-i.bits _ c.shown_row-here.result c.loop-i.invariant c.shown_row-here.ensures.row
    (ap (λ m. 2 * c.loop-i.bits + m) (c.from.ensures ∙ one-from_bool (c.shown_row-here.result == c.args.row)))
