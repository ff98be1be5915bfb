use Rattle.std.proofs.Common.{ℤ, ap₂, arith}
use Rattle.std.proofs.lemmas.Int.{ints}
use Rattle.vx_grid.specs.declared.places.Rect.{Rect}
use Rattle.vx_grid.proofs.places.Rect.around.Goals as goal

pub returns : goal.returns
returns c =
    ap₂ (λ (l t : ℤ). let r : Rect = record { left = l; top = t; width = c.args.width; height = c.args.height } in r)
    (omega (arith, ints)) (omega (arith, ints))
