use Rattle.std.proofs.Common.{◌≡◌}
use Rattle.vx_plane.specs.Plane.{dark_at}
use Rattle.vx_plane.specs.Count.{count_in}
use Rattle.vx_plane.proofs.Counts.{count_in-le_area}
use Rattle.vx_mark.proofs.judge.dark_around.Goals as goal

pub returns-clause-bound : goal.returns-clause-bound
returns-clause-bound c =
    let e : c.dark_in.result ≡ count_in _ _ c.args.width c.args.height (dark_at c.args.counter.now) = rw c.around.ensures at c.dark_in.ensures in
    rw e (count_in-le_area _ _ c.args.width c.args.height (dark_at c.args.counter.now))
