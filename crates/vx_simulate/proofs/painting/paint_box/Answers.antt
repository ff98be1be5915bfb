use Rattle.std.proofs.Common.{◌-◌, pos, arith}
use Rattle.vx_plane.specs.Plane.{rectangle, placed}
use Rattle.vx_simulate.specs.declared.ink.Ink.TheVariants.{WholeBox}
use Rattle.vx_simulate.specs.Ink.{ink_pixels}
use Rattle.vx_simulate.proofs.Laid.{laid-same}
use Rattle.vx_simulate.proofs.Insides.{placed-box}
use Rattle.vx_simulate.proofs.painting.paint_box.Goals as goal

pub returns : goal.returns
returns c =
    laid-same c.args.page.now _ (rectangle (pos (c.args.x - c.from.result)) (pos (c.args.y - c.from-2.result)) 40 26) (placed (pos c.args.x) (pos c.args.y) (ink_pixels WholeBox))
    c.darken.ensures
    (λ u v. placed-box c.args.x c.args.y (c.args.x - c.from.result) (c.args.y - c.from-2.result) u v (omega (arith, c.from.ensures, c.requires.across.0)) (omega (arith, c.from-2.ensures, c.requires.down.0)))
