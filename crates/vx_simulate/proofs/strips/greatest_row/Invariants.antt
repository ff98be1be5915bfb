use Rattle.vx_geom.specs.Slants.{slant_of}
use Rattle.vx_simulate.proofs.Columns.{IsGreatestOf}
use Rattle.vx_simulate.proofs.strips.greatest_row.Given as goal

-- the greatest row of the columns so far
abbrev pub invariant-loop-i : goal.invariant-loop-i
invariant-loop-i l = IsGreatestOf (slant_of l.shear) l.k l.i l.greatest
