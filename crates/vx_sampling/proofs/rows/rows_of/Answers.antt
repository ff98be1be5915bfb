use Rattle.std.proofs.Common.{length, refl}
use Rattle.std.proofs.lemmas.Option.{slice_get_read}
use Rattle.vx_sampling.proofs.Rowed.{one_row}
use Rattle.vx_sampling.proofs.rows.rows_of.Goals as goal

pub loop-place-preserved : goal.loop-place-preserved
loop-place-preserved c =
    one_row c.args.records.now c.args.hand.now c.args.sample.now.draws c.args.limit c.args.contests.now c.loop-place.rows.items c.push.new.self.items
    c.loop-place.place c.index-contests-place.result c.in_ok-row.row c.loop-place.invariant
    (slice_get_read c.args.contests.now (length c.args.contests.now) c.loop-place.place c.index-contests-place.result refl c.loop-place-test.true c.index-contests-place.is)
    c.in_ok-row.ensures c.in_ok-push.ensures.items
