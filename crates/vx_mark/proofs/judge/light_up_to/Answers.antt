use Rattle.std.proofs.Common.{◌-◌, ◌+◌, arith}
use Rattle.vx_mark.proofs.Deficits.{front_light-more, front_light-le, le-up_to}
use Rattle.vx_mark.proofs.judge.light_up_to.Goals as goal

pub returns-then-light-below-clause-value : goal.returns-then-light-below-clause-value
returns-then-light-below-clause-value c =
    let page = c.args.counter.now in
    let j = c.loop-j.j in
    le-up_to c.args.below (c.loop-j.light + c.light_in_row-light.result) _
    (omega (arith, front_light-more page c.args.u c.args.v j, front_light-le page c.args.u c.args.v (j + 1) (9 - j) (omega arith) (omega arith)))
    c.if-light-below.true

pub loop-j-preserved : goal.loop-j-preserved
loop-j-preserved c = record {
  light = omega (arith, front_light-more c.args.counter.now c.args.u c.args.v c.loop-j.j);
  less = c.if-light-below.false;
}
