use Rattle.std.proofs.Common.{arith}
use Rattle.vx_mark.proofs.Deficits.{first_row-le, le-up_to}
use Rattle.vx_mark.proofs.judge.deficit_up_to.Goals as goal

pub returns-then-first-below : goal.returns-then-first-below
returns-then-first-below c =
    le-up_to c.args.below c.light_in_row-first.result _ (omega (arith, first_row-le c.args.counter.now c.args.u c.args.v (omega arith))) c.if-first-below.true
