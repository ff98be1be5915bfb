use Rattle.std.proofs.Common.{arith}
use Rattle.vx_mark.proofs.Deficits.{first_row-le, last_row-le}
use Rattle.vx_mark.proofs.judge.is_row_out.Goals as goal

pub returns-then-is_run_light : goal.returns-then-is_run_light
returns-then-is_run_light c = λ told u from before. omega (arith, c.is_run_light.ensures told u from before, first_row-le c.args.counter.now u c.args.v (omega arith))

pub returns-else-is_run_light : goal.returns-else-is_run_light
returns-else-is_run_light c = λ told u from before. omega (arith, c.is_run_light-else-is_run_light.ensures told u from before, last_row-le c.args.counter.now u c.args.v (omega arith))
