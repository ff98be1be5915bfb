use Rattle.std.proofs.Common.{◌<◌, pos, ◌-ℤ◌, arith}
use Rattle.std.proofs.lemmas.Int.{ints}
use Rattle.vx_grid.specs.Grid.{x_of, y_of}
use Rattle.vx_geom.specs.Slants.{slant_of}
use Rattle.vx_simulate.proofs.Laid.{moved-corner}
use Rattle.vx_simulate.proofs.Zoned.{bubble-rows_few}
use Rattle.vx_simulate.proofs.scan_flips.flip_at_bubble.Goals as goal

pub returns : goal.returns
returns c =
    let bubble = c.args.bubble in
    let grid = c.requires.grid in
    let few : y_of c.args.paper bubble.row < 4000 = bubble-rows_few c.args.paper bubble.row grid.high in
    moved-corner (slant_of c.args.shear) c.args.page.now c.flip_places.new.page _ _ (pos (x_of bubble.col) -ℤ pos 36) (pos (y_of c.args.paper bubble.row) -ℤ pos 25) c.args.places.now
    c.flip_places.ensures
    (omega (arith, ints, c.x_of.ensures, grid.col, grid.few))
    (omega (arith, ints, c.y_of.ensures, few))
