use Rattle.std.proofs.Common.{arith}
use Rattle.vx_mark.proofs.Bests.{best-none}
use Rattle.vx_mark.proofs.search.better.Goals as goal

pub returns-else-deficit-below : goal.returns-else-deficit-below
returns-else-deficit-below c =
    best-none c.args.counter.now c.args.predicted c.args.cap c.args.u c.args.v c.args.best c.requires.before
    (omega (arith, c.bound_after-below.ensures, c.deficit_up_to-deficit.ensures.reached c.if-deficit-below.false))
