use Rattle.std.proofs.Common.{pos, arith}
use Rattle.vx_plane.specs.Plane.{dark_at}
use Rattle.vx_plane.proofs.Counts.{count_in-bound}
use Rattle.vx_mark.proofs.judge.dark_in_flank.Goals as goal

pub returns-clause-bound : goal.returns-clause-bound
returns-clause-bound c =
    omega (arith, c.dark_in_frame.ensures, count_in-bound (pos c.args.left) (pos c.args.top) c.args.width c.args.height 34 10 (dark_at c.args.counter.now) c.requires.width c.requires.height)
