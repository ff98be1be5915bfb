use Rattle.vx_geom.specs.Slants.{slant_of}
use Rattle.vx_simulate.proofs.ScanRows.{row-shown, strips-few}
use Rattle.vx_simulate.proofs.sheared.shear_row.Goals as goal

pub slant_row-requires-clause-few : goal.slant_row-requires-clause-few
slant_row-requires-clause-few c = λ k d h. strips-few (slant_of c.args.shear) c.args.strips.now k d c.requires.strips h

pub returns : goal.returns
returns c =
    row-shown (slant_of c.args.shear) c.args.rows.now c.slant_row.new.into c.args.into.now c.change_row.new.into c.args.strips.now c.args.v c.first_column.result
    c.first_column.ensures.below c.first_column.ensures.column c.slant_row.ensures c.change_row.ensures
