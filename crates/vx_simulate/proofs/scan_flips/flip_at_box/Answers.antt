use Rattle.std.proofs.Common.{◌≡◌, ◌<◌, ℕ, ap, pos, ◌-ℤ◌, arith}
use Rattle.std.proofs.lemmas.Int.{ints}
use Rattle.vx_plane.specs.Count.{outside_of}
use Rattle.vx_grid.specs.Grid.{x_of, y_of}
use Rattle.vx_grid.specs.Regions.{frame_zone}
use Rattle.vx_code.specs.Code.{place_of_box}
use Rattle.vx_geom.specs.Slants.{slant_of}
use Rattle.vx_simulate.proofs.Laid.{moved-corner_within}
use Rattle.vx_simulate.proofs.Zoned.{code-rows_few}
use Rattle.vx_simulate.proofs.scan_flips.flip_at_box.Goals as goal

pub returns : goal.returns
returns c =
    let place = place_of_box c.args.paper c.args.n in
    let column : c.place_of_box-column.result.0 ≡ place.0 = ap (λ (p : ℕ × ℕ). p.0) c.place_of_box-column.ensures.exact in
    let row : c.place_of_box-column.result.1 ≡ place.1 = ap (λ (p : ℕ × ℕ). p.1) c.place_of_box-column.ensures.exact in
    let few : y_of c.args.paper place.1 < 4000 = code-rows_few c.args.paper c.args.n c.requires.box_number in
    moved-corner_within (slant_of c.args.shear) c.args.page.now c.flip_inside_places.new.page _ _ (pos (x_of place.0) -ℤ pos 30) (pos (y_of c.args.paper place.1) -ℤ pos 22)
    (outside_of (frame_zone c.args.paper)) c.args.places.now
    c.flip_inside_places.ensures
    (omega (arith, ints, c.x_of.ensures, column))
    (omega (arith, ints, c.y_of.ensures, row, few))
