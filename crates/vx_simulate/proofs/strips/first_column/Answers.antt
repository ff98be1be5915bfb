use Rattle.std.proofs.Common.{arith}
use Rattle.std.proofs.lemmas.Int.{ints}
use Rattle.vx_simulate.proofs.Columns.{first-column}
use Rattle.vx_simulate.proofs.strips.first_column.Goals as goal

pub overflow_add-result : goal.overflow_add-result
overflow_add-result c =
    let is = first-column c.args.shear c.args.v _ c.to_paper.result c.requires.short c.requires.row c.to_paper.ensures (omega (arith, ints, c.requires.row)) in
    omega (arith, ints, is.0, is.1, is.2)

pub overflow_cast-result : goal.overflow_cast-result
overflow_cast-result c =
    let is = first-column c.args.shear c.args.v _ c.to_paper.result c.requires.short c.requires.row c.to_paper.ensures (omega (arith, ints, c.requires.row)) in
    (omega (arith, ints, is.0, is.1, is.2), omega (arith, ints, is.0, is.1, is.2))

pub returns-clause-column : goal.returns-clause-column
returns-clause-column c =
    let is = first-column c.args.shear c.args.v _ c.to_paper.result c.requires.short c.requires.row c.to_paper.ensures (omega (arith, ints, c.requires.row)) in
    omega (arith, ints, is.0, is.1, is.2)

pub returns-clause-below : goal.returns-clause-below
returns-clause-below c =
    let is = first-column c.args.shear c.args.v _ c.to_paper.result c.requires.short c.requires.row c.to_paper.ensures (omega (arith, ints, c.requires.row)) in
    omega (arith, ints, is.0, is.1, is.2)
