use Rattle.std.proofs.Common.{arith, pos, ◌-ℤ◌}
use Rattle.vx_plane.specs.Plane.{dark_at}
use Rattle.vx_plane.proofs.Counts.{count_in-complement}
use Rattle.vx_mark.proofs.judge.light_in_core.Goals as goal

pub returns-clause-value : goal.returns-clause-value
returns-clause-value c = omega (arith, count_in-complement (c.args.place.u -ℤ pos 17) (c.args.place.v -ℤ pos 5) 34 10 (dark_at c.args.counter.now), c.dark_around.ensures.value)
