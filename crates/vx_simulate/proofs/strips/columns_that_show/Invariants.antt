use Rattle.vx_geom.specs.Slants.{slant_of}
use Rattle.vx_simulate.proofs.Columns.{HaveBits}
use Rattle.vx_simulate.proofs.strips.columns_that_show.Given as goal

-- the bits of the columns so far
abbrev pub invariant-loop-i : goal.invariant-loop-i
invariant-loop-i l = HaveBits (slant_of l.shear) l.k l.row l.i l.bits
