use Rattle.std.proofs.Common.{◌≡◌, ◌∙◌, ◌++◌, ◌∷◌, [], ap, sym, subst, List, Some}
use Rattle.std.specs.Prelude.{IsSome}
use Rattle.indexmap.specs.IndexMap.{set_value_at}
use Rattle.vx_events.specs.declared.event.Event.{Event}
use Rattle.vx_events.specs.declared.key.Key.{Key}
use Rattle.vx_refusals.specs.declared.reply.Reply.TheVariants.{Done}
use Rattle.vx_events.specs.Fits.{Fits}
use Rattle.vx_center.specs.Kept.{Kept}
use Rattle.vx_center.specs.Sheets.{place_in}
use Rattle.vx_center.specs.Replies.{reply_of}
use Rattle.vx_center.specs.States.{Entry, IsKept}
use Rattle.vx_center.proofs.Following.{key_of, done-asks}
use Rattle.vx_center.proofs.Entries.{hands-asks, hands-key, kept-hand}
use Rattle.vx_center.proofs.Finding.{placed, place-within}
use Rattle.vx_center.proofs.center.Center.keep_holder.Goals as goal

pub added_place-place-requires : goal.added_place-place-requires
added_place-place-requires c =
    let election = c.args.self.now.election in
    let kept = c.args.self.now.events in
    let event = c.args.event in
    let key = c.args.key.now in
    let asks = hands-asks event key c.args.holder c.requires.hands in
    subst (λ (k : Key). IsSome (place_in kept k)) (hands-key event key c.args.holder c.requires.hands)
    (placed kept (key_of event) (done-asks election kept event asks c.requires.done))

pub index_mut-requires : goal.index_mut-requires
index_mut-requires c =
    let inside = c.self.inside in
    let found = subst (λ (k : Kept). place_in k.events c.args.key.now ≡ Some c.added_place-place.result) (sym c.self.view_is) c.added_place-place.ensures in
    place-within inside.election.now inside.events inside.sheets.entries c.args.key.now c.added_place-place.result c.self.invariant found

pub invariant_of-self-2 : goal.invariant_of-self-2
invariant_of-self-2 c =
    let election = c.self.inside.election.now in
    let kept = c.self.inside.events in
    let entries = c.self.inside.sheets.entries in
    let key = c.args.key.now in
    let event = c.args.event in
    let place = c.added_place-place.result in
    let old = c.index_mut.result.now in
    let found = subst (λ (k : Kept). place_in k.events key ≡ Some place) (sym c.self.view_is) c.added_place-place.ensures in
    let fits = subst (λ (k : Kept). Fits k.election event) (sym c.self.view_is) c.requires.fits in
    let done = subst (λ (k : Kept). reply_of k.election k.events event ≡ Done) (sym c.self.view_is) c.requires.done in
    subst (λ (events : List Event). IsKept election events (set_value_at entries place c.give_to.new.self)) (sym c.in_ok-push.ensures)
    (subst (λ (entry : Entry). IsKept election (kept ++ event ∷ []) (set_value_at entries place entry)) (sym c.give_to.ensures)
    (kept-hand election kept entries c.self.invariant event key c.args.holder c.requires.hands fits done place found old c.index_mut.ensures.value))
