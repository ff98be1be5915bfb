use Rattle.std.proofs.Common.{◌≡◌, ◌-◌, ◌+◌, ℤ, pos, ◌-ℤ◌, ap₂, ◌∙◌, arith}
use Rattle.std.proofs.lemmas.Int.{ints}
use Rattle.vx_plane.specs.Plane.{rectangle, painted}
use Rattle.vx_raster.proofs.round.paint_round.Goals as goal

pub returns : goal.returns
returns c =
    let half = c.args.half in
    let left : pos (c.args.x - half.across) ≡ pos c.args.x -ℤ pos half.across = omega (arith, ints, c.requires.across.0) in
    let top : pos (c.args.y - half.down) ≡ pos c.args.y -ℤ pos half.down = omega (arith, ints, c.requires.down.0) in
    (rw (c.from.ensures, c.from-2.ensures) at c.darken.ensures)
    ∙ ap₂ (λ (a b : ℤ). painted c.args.page.now (rectangle a b (half.across + half.across) (half.down + half.down))) left top
