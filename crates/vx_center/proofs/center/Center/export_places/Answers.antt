use Rattle.std.proofs.Common.{◌∙◌, ap, map}
use Rattle.std.specs.Ordering.{is_lt}
use Rattle.std.proofs.lemmas.List.MinMax.{ranks_by}
use Rattle.std.proofs.lemmas.List.Sorted.{answers_always}
use Rattle.vx_center.specs.declared.exporting.KeyedPlace.{KeyedPlace}
use Rattle.vx_center.specs.Exports.{key_order}
use Rattle.vx_center.proofs.Keyed.{places-of_export}
use Rattle.vx_center.proofs.Rowed.{key_order-total}
use Rattle.vx_center.proofs.center.Center.export_places.Goals as goal

pub returns : goal.returns
returns c =
    let sorted = c.in_ok-sort_by.ensures.sorted (λ (x y : KeyedPlace). is_lt (key_order x.key.now y.key.now))
    (ranks_by key_order-total (λ (one : KeyedPlace). one.key.now)) (answers_always _ _ _ (λ f a r g k. ap is_lt k.met)) in
    places-of_export (λ (one : KeyedPlace). one.place) (λ (one : KeyedPlace). one.key.now) c.args.self.now.election c.args.self.now.events
    c.in_ok-keyed.keyed.items _ c.in_ok-places.places.items c.in_ok-keyed.ensures c.in_ok-sort_by.ensures.permutation sorted
    (c.in_ok-places.ensures ∙ ap (map (λ (one : KeyedPlace). one.place)) c.as_slice.ensures.value)
