use Rattle.std.proofs.Common.{◌<◌, ◌+◌, ℕ, sym, subst, arith}
use Rattle.vx_geom.specs.Slants.{slant_of}
use Rattle.vx_simulate.proofs.Columns.{IsGreatestOf, more-greatest}
use Rattle.vx_simulate.proofs.strips.greatest_row.Goals as goal

pub loop-i-preserved : goal.loop-i-preserved
loop-i-preserved c =
    let s = slant_of c.args.shear in
    let few : c.loop-i.i < 8 = omega arith in
    let Is : ℕ → Type 0 = λ m. IsGreatestOf s c.args.k (c.loop-i.i + 1) m in
    subst Is (sym c.max-greatest.ensures)
    (more-greatest s c.args.k c.loop-i.i c.loop-i.greatest c.shown_row-row.result few c.loop-i.invariant c.shown_row-row.ensures.row c.shown_row-row.ensures.above c.shown_row-row.ensures.below)
