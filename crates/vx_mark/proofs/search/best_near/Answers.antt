use Rattle.std.proofs.Common.{sym, subst, arith, Option}
use Rattle.vx_mark.specs.declared.search.Found.{Found}
use Rattle.vx_mark_model.specs.Best.{IsBest}
use Rattle.vx_mark.specs.Search.{IsBestSeen}
use Rattle.vx_mark.proofs.Bests.{row-is, found-best, none-near}
use Rattle.vx_mark.proofs.search.best_near.Goals as goal

pub best_with_row-best-requires-clause-row : goal.best_with_row-best-requires-clause-row
best_with_row-best-requires-clause-row c =
    row-is c.args.counter.now c.args.predicted c.rows_near-rows.result c.loop-v.v c.rows_near-rows.ensures c.loop-v.auto.v c.loop-v-test.true

pub returns-in-Some : goal.returns-in-Some
returns-in-Some c =
    let Seen : Option Found → Type 0 = λ best. IsBestSeen c.args.counter.now c.args.predicted c.first_bound-cap.result 0 c.loop-v.v best in
    subst (IsBest c.args.counter.now c.args.predicted) (sym c.point.ensures)
    (found-best c.args.counter.now c.args.predicted c.loop-v.v c.rows_near-rows.result c.in-Some.found c.rows_near-rows.ensures (omega arith) (subst Seen c.in-Some.is c.loop-v.invariant))

pub returns-in-None : goal.returns-in-None
returns-in-None c =
    let Seen : Option Found → Type 0 = λ best. IsBestSeen c.args.counter.now c.args.predicted c.first_bound-cap.result 0 c.loop-v.v best in
    none-near c.args.counter.now c.args.predicted c.first_bound-cap.result c.loop-v.v c.rows_near-rows.result c.rows_near-rows.ensures (omega arith) c.first_bound-cap.ensures.cap (subst Seen c.in-None.is c.loop-v.invariant)
