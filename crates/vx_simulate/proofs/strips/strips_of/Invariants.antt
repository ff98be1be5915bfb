use Rattle.vx_geom.specs.Slants.{slant_of}
use Rattle.vx_simulate.proofs.Columns.{AreFirstStrips}
use Rattle.vx_simulate.proofs.strips.strips_of.Given as goal

-- the strips so far
abbrev pub invariant-loop-k : goal.invariant-loop-k
invariant-loop-k l = AreFirstStrips (slant_of l.shear) l.strips.items l.k
