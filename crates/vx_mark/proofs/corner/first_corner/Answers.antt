use Rattle.std.proofs.Common.{Option, arith, sym, subst}
use Rattle.vx_mark.specs.declared.pixels.Pixel.{Pixel}
use Rattle.vx_mark_model.specs.Corner.{IsCorner}
use Rattle.vx_mark.specs.Search.{IsFirstAbove}
use Rattle.vx_mark.proofs.Corners.{row-last, corner-all, none-all}
use Rattle.vx_mark.proofs.corner.first_corner.Goals as goal

pub corner_with_row-corner-requires-clause-last : goal.corner_with_row-corner-requires-clause-last
corner_with_row-corner-requires-clause-last c = (row-last c.args.counter.now c.past_of-v-end.result c.loop-v.v (rw c.height.ensures.value at c.past_of-v-end.ensures) c.loop-v-test.true).0

pub corner_with_row-corner-requires-clause-bottom : goal.corner_with_row-corner-requires-clause-bottom
corner_with_row-corner-requires-clause-bottom c = (row-last c.args.counter.now c.past_of-v-end.result c.loop-v.v (rw c.height.ensures.value at c.past_of-v-end.ensures) c.loop-v-test.true).1

pub returns-in-Some : goal.returns-in-Some
returns-in-Some c =
    let Above : Option Pixel → Type 0 = λ corner. IsFirstAbove c.args.counter.now c.loop-v.v corner in
    subst (IsCorner c.args.counter.now) (sym c.point.ensures)
    (corner-all c.args.counter.now c.past_of-v-end.result c.loop-v.v c.in-Some.pixel (rw c.height.ensures.value at c.past_of-v-end.ensures) (omega arith) (subst Above c.in-Some.is c.loop-v.invariant))

pub returns-in-None : goal.returns-in-None
returns-in-None c =
    let Above : Option Pixel → Type 0 = λ corner. IsFirstAbove c.args.counter.now c.loop-v.v corner in
    none-all c.args.counter.now c.past_of-v-end.result c.loop-v.v (rw c.height.ensures.value at c.past_of-v-end.ensures) (omega arith) (subst Above c.in-None.is c.loop-v.invariant)
