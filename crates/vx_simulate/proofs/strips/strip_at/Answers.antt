use Rattle.std.proofs.Common.{refl, ◌-◌}
use Rattle.vx_simulate.proofs.Columns.{strip-row}
use Rattle.vx_simulate.proofs.strips.strip_at.Goals as goal

pub returns-clause-rows : goal.returns-clause-rows
returns-clause-rows c = λ i h.
    (strip-row c.args.shear c.args.k c.greatest_row-greatest.result i (record { row = c.greatest_row-greatest.result - 1; bits = c.columns_that_show.result })
    c.requires.short c.requires.strip h c.greatest_row-greatest.ensures.greatest c.greatest_row-greatest.ensures.above c.greatest_row-greatest.ensures.below refl c.columns_that_show.ensures).0
