use Rattle.std.proofs.Common.{◌≡◌, ◌+◌, Some, length, refl, take}
use Rattle.std.specs.Prelude.{slice_get}
use Rattle.std.proofs.lemmas.Option.{slice_get_read}
use Rattle.vx_center.specs.Sheets.{sheets_in}
use Rattle.vx_ranked.specs.Rankings.{ranked_by}
use Rattle.vx_ranked.proofs.Turned.{front-more, left-behind}
use Rattle.vx_ranked.proofs.gathering.take_row.Goals as goal

pub loop-index-preserved : goal.loop-index-preserved
loop-index-preserved c =
    let groups = c.args.groups.now in
    let kept = c.args.center.now.events in
    let ranked = c.loop-index.ranked.items in
    let place = c.loop-index.index in
    let group = c.index-groups-index.result in
    let before = ranked_by c.args.center.now.election kept (take c.args.place (sheets_in kept)) in
    let now = ranked_by c.args.center.now.election kept (take (c.args.place + 1) (sheets_in kept)) in
    let there : slice_get groups place ≡ Some group =
    slice_get_read groups (length groups) place group refl c.loop-index-test.true c.index-groups-index.is in
    record {
      taken =
          front-more before groups ranked place c.loop-index.invariant.left now c.loop-index.invariant.taken group
          c.take_place.new.self there c.in_ok-take_place.ensures;
      left = left-behind before groups ranked place c.loop-index.invariant.left group there c.take_place.new.self;
    }
