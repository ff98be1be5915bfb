use Rattle.vx_center.specs.declared.exporting.KeyedPlace.{KeyedPlace}
use Rattle.vx_center.specs.Exports.{keyed_at}
use Rattle.vx_center.proofs.Keyed.{one_more}
use Rattle.vx_center.proofs.center.Center.keyed_places.Goals as goal

pub loop-place-preserved : goal.loop-place-preserved
loop-place-preserved c =
    one_more (λ (one : KeyedPlace). (one.place, one.key.now)) (keyed_at c.args.self.now.events)
    c.loop-place.keyed.items _ c.loop-place.place c.keyed_place.result c.in_ok-push.ensures.items c.keyed_place.ensures c.loop-place.invariant
