use Rattle.std.proofs.Common.{ap, length, arith}
use Rattle.std.proofs.lemmas.List.FromFn.{length-map-range_with_len}
use Rattle.vx_tally.specs.Running.{summed_in}
use Rattle.vx_sampling.proofs.Rowed.{told_is}
use Rattle.vx_sampling.proofs.rows.told_of.Goals as goal

pub sides_of-requires-clause-few : goal.sides_of-requires-clause-few
sides_of-requires-clause-few c =
    let here = ap length c.as_slice-3.ensures.value in
    let votes = ap length c.in_ok-votes.ensures in
    let count = length-map-range_with_len ((summed_in c.args.totals.now).votes c.args.place) 0 (length c.args.contest.now.choices) in
    omega (arith, here, votes, count, c.requires.options)

pub returns : goal.returns
returns c =
    told_is c.args.records.now (summed_in c.args.totals.now) c.args.hand.now c.args.sample.now.draws c.args.limit c.args.place c.args.contest.now
    c.in_ok-votes.votes.items c.as_slice-2.result.now c.as_slice-3.result.now c.in_ok-slots.slots c.as_slice.result.now c.in_ok-written.written
    c.in_ok-standing.standing c.in_ok-sides.sides c.in_ok-told.told c.requires.summed c.in_ok-votes.ensures c.as_slice-2.ensures.value
    c.as_slice-3.ensures.value c.in_ok-slots.ensures c.as_slice.ensures c.in_ok-written.ensures c.in_ok-standing.ensures c.in_ok-sides.ensures
    c.in_ok-told.ensures
