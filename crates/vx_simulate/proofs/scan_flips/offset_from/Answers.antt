use Rattle.std.proofs.Common.{arith}
use Rattle.std.proofs.lemmas.Int.{ints}
use Rattle.vx_grid.proofs.MarkPlaces.{same-point}
use Rattle.vx_simulate.proofs.scan_flips.offset_from.Goals as goal

pub returns-clause-place : goal.returns-clause-place
returns-clause-place c =
    same-point _ _
    (omega (arith, ints, c.requires.left.low, c.requires.left.high, c.requires.near.0))
    (omega (arith, ints, c.requires.top.low, c.requires.top.high, c.requires.near.1))
