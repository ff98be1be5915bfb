use Rattle.std.proofs.Common.{sym, subst}
use Rattle.vx_count.specs.Turned.{IsKept}
use Rattle.vx_count.proofs.counter.Counter.reusing.Goals as goal

pub invariant_of-result : goal.invariant_of-result
invariant_of-result c =
    let page : IsKept c.args.page.now = record { columns = c.requires.width; rows = c.requires.height; whole = c.width-width.ensures.whole } in
    subst IsKept (sym c.in_ok-reusing.ensures) page
