use Rattle.vx_mark.proofs.Corners.{corner-some, corner-none, end-most, end-right}
use Rattle.vx_mark.proofs.corner.corner_with_row.Goals as goal

pub first_in_row-requires-clause-most : goal.first_in_row-requires-clause-most
first_in_row-requires-clause-most c = end-most c.args.counter.now c.args.past c.past_before.result c.requires.past c.past_before.ensures.most

pub first_in_row-requires-clause-right : goal.first_in_row-requires-clause-right
first_in_row-requires-clause-right c = end-right c.args.counter.now c.args.past c.past_before.result c.requires.past c.past_before.ensures.most

pub returns-in-Some : goal.returns-in-Some
returns-in-Some c =
    corner-some c.args.counter.now c.args.above c.args.past c.args.v c.past_before.result c.in-Some.u
    c.requires.past c.requires.first c.requires.last (record { before = c.past_before.ensures.first }) c.requires.above c.in-Some.ensures

pub returns-in-None : goal.returns-in-None
returns-in-None c =
    corner-none c.args.counter.now c.args.above c.args.past c.args.v c.past_before.result
    c.requires.past (record { before = c.past_before.ensures.first }) c.requires.above c.in-None.ensures
