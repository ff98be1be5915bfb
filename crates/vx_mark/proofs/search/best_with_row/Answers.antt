use Rattle.std.proofs.Common.{arith, refl, subst, ℕ}
use Rattle.vx_mark.specs.Search.{IsOut}
use Rattle.vx_mark.proofs.Bests.{columns-few, row-near, row-footprint, row-out, row-end}
use Rattle.vx_mark.proofs.search.best_with_row.Goals as goal

pub is_row_out-requires-clause-columns : goal.is_row_out-requires-clause-columns
is_row_out-requires-clause-columns c = columns-few c.args.counter.now c.args.predicted c.args.columns c.requires.columns

pub returns-then-is_row_out : goal.returns-then-is_row_out
returns-then-is_row_out c =
    row-out c.args.counter.now c.args.predicted c.args.cap c.args.v c.args.columns c.args.before c.requires.columns c.requires.before
    (subst (λ (below : ℕ). IsOut c.args.counter.now c.args.columns c.args.v below) c.bound_after.ensures (c.if-is_row_out.ensures refl))

pub better-best-requires-clause-near : goal.better-best-requires-clause-near
better-best-requires-clause-near c =
    row-near c.args.counter.now c.args.predicted c.args.columns c.loop-u.u c.args.v c.requires.columns c.requires.row c.loop-u.auto.u c.loop-u-test.true

pub better-best-requires-clause-here : goal.better-best-requires-clause-here
better-best-requires-clause-here c =
    row-footprint c.args.counter.now c.args.predicted c.args.columns c.loop-u.u c.args.v c.requires.columns c.requires.row c.loop-u.auto.u c.loop-u-test.true

pub returns : goal.returns
returns c =
    row-end c.args.counter.now c.args.predicted c.args.cap c.loop-u.u c.args.v c.args.columns c.loop-u.best c.requires.columns (omega arith) c.loop-u.invariant
