use Rattle.std.proofs.Common.{pos, ◌+ℤ◌, arith}
use Rattle.std.proofs.lemmas.Int.{ints}
use Rattle.vx_geom.specs.Slants.{slant_of}
use Rattle.vx_simulate.proofs.Laid.{shown-laid_at}
use Rattle.vx_simulate.proofs.scan_flips.flip_shown.Goals as goal

pub returns : goal.returns
returns c =
    shown-laid_at (slant_of c.args.shear) c.args.page.now c.flip.new.page (record { u = c.args.left +ℤ pos c.args.place.0; v = c.args.top +ℤ pos c.args.place.1 }) c.to_scan.result _ _
    c.flip.ensures c.to_scan.ensures
    (omega (arith, ints, c.requires.left.low, c.requires.left.high, c.requires.near.0))
    (omega (arith, ints, c.requires.top.low, c.requires.top.high, c.requires.near.1))
