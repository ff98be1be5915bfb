use Rattle.std.proofs.Common.{arith}
use Rattle.std.proofs.lemmas.Int.{ints}
use Rattle.vx_simulate.proofs.Columns.{shown-row}
use Rattle.vx_simulate.proofs.strips.shown_row.Goals as goal

pub overflow_sub-result : goal.overflow_sub-result
overflow_sub-result c =
    let is = shown-row c.args.shear c.args.x _ c.to_scan.result c.requires.short c.requires.column c.to_scan.ensures (omega (arith, ints, c.requires.column)) in
    omega (arith, ints, is.0, is.1, is.2)

pub overflow_cast-result : goal.overflow_cast-result
overflow_cast-result c =
    let is = shown-row c.args.shear c.args.x _ c.to_scan.result c.requires.short c.requires.column c.to_scan.ensures (omega (arith, ints, c.requires.column)) in
    (omega (arith, ints, is.0, is.1, is.2), omega (arith, ints, is.0, is.1, is.2))

pub returns-clause-row : goal.returns-clause-row
returns-clause-row c =
    let is = shown-row c.args.shear c.args.x _ c.to_scan.result c.requires.short c.requires.column c.to_scan.ensures (omega (arith, ints, c.requires.column)) in
    omega (arith, ints, is.0, is.1, is.2)

pub returns-clause-above : goal.returns-clause-above
returns-clause-above c =
    let is = shown-row c.args.shear c.args.x _ c.to_scan.result c.requires.short c.requires.column c.to_scan.ensures (omega (arith, ints, c.requires.column)) in
    omega (arith, ints, is.0, is.1, is.2)

pub returns-clause-below : goal.returns-clause-below
returns-clause-below c =
    let is = shown-row c.args.shear c.args.x _ c.to_scan.result c.requires.short c.requires.column c.to_scan.ensures (omega (arith, ints, c.requires.column)) in
    omega (arith, ints, is.0, is.1, is.2)
