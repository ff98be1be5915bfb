use Rattle.std.proofs.Common.{◌≡◌, ◌∙◌, ◌++◌, ◌∷◌, [], ap, sym, subst, List, Some}
use Rattle.std.specs.Prelude.{IsSome}
use Rattle.indexmap.specs.IndexMap.{set_value_at}
use Rattle.vx_events.specs.declared.event.Event.{Event}
use Rattle.vx_events.specs.declared.event.Event.TheVariants.{Decide}
use Rattle.vx_events.specs.declared.key.Key.{Key}
use Rattle.vx_refusals.specs.declared.reply.Reply.TheVariants.{Done}
use Rattle.vx_events.specs.Fits.{Fits}
use Rattle.vx_center.specs.declared.name.SheetName.{SheetName}
use Rattle.vx_center.specs.Kept.{Kept}
use Rattle.vx_center.specs.Sheets.{place_in}
use Rattle.vx_center.specs.Replies.{reply_of}
use Rattle.vx_center.specs.States.{Entry, IsKept}
use Rattle.vx_center.proofs.Places.{set-same}
use Rattle.vx_center.proofs.Entries.{kept-decide}
use Rattle.vx_center.proofs.Finding.{placed, place-within}
use Rattle.vx_center.proofs.center.Center.keep_decision.Goals as goal

pub index_mut-requires : goal.index_mut-requires
index_mut-requires c =
    let inside = c.self.inside in
    let found = subst (λ (k : Kept). place_in k.events c.args.key.now ≡ Some c.added_place-place.result) (sym c.self.view_is) c.added_place-place.ensures in
    place-within inside.election.now inside.events inside.sheets.entries c.args.key.now c.added_place-place.result c.self.invariant found

pub invariant_of-self : goal.invariant_of-self
invariant_of-self c =
    let election = c.self.inside.election.now in
    let kept = c.self.inside.events in
    let entries = c.self.inside.sheets.entries in
    let place = c.added_place-place.result in
    let old = c.index_mut.result.now in
    subst (λ (events : List Event). IsKept election events (set_value_at entries place c.decide.new.self)) (sym c.in_err-decide.ensures.as_before)
    (subst (λ (entry : Entry). IsKept election kept (set_value_at entries place entry)) (sym c.in_err-decide.ensures.entry_as_before)
    (subst (λ (es : List (SheetName × Entry)). IsKept election kept es) (sym (set-same entries place old c.index_mut.ensures.value)) c.self.invariant))

pub invariant_of-self-2 : goal.invariant_of-self-2
invariant_of-self-2 c =
    let election = c.self.inside.election.now in
    let kept = c.self.inside.events in
    let entries = c.self.inside.sheets.entries in
    let key = c.args.key.now in
    let decided = c.args.decided in
    let station = c.requires.decides.0 in
    let event : Event = Decide station key decided.contest decided.decision in
    let place = c.added_place-place.result in
    let old = c.index_mut.result.now in
    let found = subst (λ (k : Kept). place_in k.events key ≡ Some place) (sym c.self.view_is) c.added_place-place.ensures in
    let fits : Fits election event =
    subst (λ (k : Kept). Fits k.election event) (sym c.self.view_is) (subst (λ (e : Event). Fits c.args.self.now.election e) c.requires.decides.1 c.requires.fits) in
    let done : reply_of election kept event ≡ Done =
    subst (λ (k : Kept). reply_of k.election k.events event ≡ Done) (sym c.self.view_is)
    (subst (λ (e : Event). reply_of c.args.self.now.election c.args.self.now.events e ≡ Done) c.requires.decides.1 c.requires.done) in
    let pushed : c.decide.new.events ≡ kept ++ event ∷ [] = c.in_ok-decide.ensures.kept ∙ ap (λ (e : Event). kept ++ e ∷ []) c.requires.decides.1 in
    subst (λ (events : List Event). IsKept election events (set_value_at entries place c.decide.new.self)) (sym pushed)
    (subst (λ (entry : Entry). IsKept election (kept ++ event ∷ []) (set_value_at entries place entry)) (sym c.in_ok-decide.ensures.decided)
    (kept-decide election kept entries c.self.invariant station key decided fits done place found old c.index_mut.ensures.value))
