use Rattle.std.proofs.Common.{arith}
use Rattle.std.proofs.lemmas.Int.{ints}
use Rattle.vx_simulate.proofs.Zoned.{first-code-row_few, beyond-code}
use Rattle.vx_simulate.proofs.scan_flips.is_in_code_zone.Goals as goal

pub returns-else-is_inside : goal.returns-else-is_inside
returns-else-is_inside c =
    let few = first-code-row_few c.args.paper in
    beyond-code c.args.paper c.is_inside.result _ c.args.place.u c.args.place.v c.is_inside.ensures c.if-is_inside.false
    (omega (arith, ints, c.y_of-top.ensures, c.first_code_row.ensures, few))
