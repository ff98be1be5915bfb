use Rattle.std.proofs.Common.{◌≡◌, ◌∙◌, ◌++◌, ◌∷◌, [], ap, ap₂, sym, subst, arith, length, List, ℕ, None, Some}
use Rattle.std.specs.List.{position_from}
use Rattle.std.specs.Map.{keys_of}
use Rattle.indexmap.specs.IndexMap.{insert_entry}
use Rattle.vx_events.specs.declared.event.Event.{Event}
use Rattle.vx_events.specs.declared.event.Event.TheVariants.{Add}
use Rattle.vx_refusals.specs.declared.reply.Reply.TheVariants.{Done}
use Rattle.vx_events.specs.Fits.{Fits}
use Rattle.vx_center.specs.declared.name.SheetName.{SheetName}
use Rattle.vx_center.specs.Kept.{Kept}
use Rattle.vx_center.specs.Replies.{reply_of}
use Rattle.vx_center.specs.States.{Entry, IsKept, name_of_key}
use Rattle.vx_center.proofs.Places.{insert-new, on-ok, position-is}
use Rattle.vx_center.proofs.Following.{done-adds}
use Rattle.vx_center.proofs.Entries.{kept-add}
use Rattle.vx_center.proofs.Finding.{same_name, place-named}
use Rattle.vx_center.proofs.center.Center.keep_sheet.Goals as goal

pub invariant_of-self-2 : goal.invariant_of-self-2
invariant_of-self-2 c =
    let election = c.self.inside.election.now in
    let kept = c.self.inside.events in
    let entries = c.self.inside.sheets.entries in
    let key = c.args.key.now in
    let sheet = c.requires.adds.0 in
    let event : Event = Add key sheet in
    let fits : Fits election event =
    subst (λ (k : Kept). Fits k.election event) (sym c.self.view_is) (subst (λ (e : Event). Fits c.args.self.now.election e) c.requires.adds.1 c.requires.fits) in
    let done : reply_of election kept event ≡ Done =
    subst (λ (k : Kept). reply_of k.election k.events event ≡ Done) (sym c.self.view_is)
    (subst (λ (e : Event). reply_of c.args.self.now.election c.args.self.now.events e ≡ Done) c.requires.adds.1 c.requires.done) in
    let none : position_from (same_name (name_of_key key)) 0 (keys_of entries) ≡ None =
    sym (position-is (same_name (name_of_key key)) (keys_of entries)) ∙ place-named election kept entries c.self.invariant key ∙ done-adds election kept key sheet done in
    let new : Entry = record { at = length kept; holder = None; decided = [] } in
    let pushed : c.push.new.self ≡ kept ++ event ∷ [] = c.in_ok-push.ensures ∙ ap (λ (e : Event). kept ++ e ∷ []) c.requires.adds.1 in
    let put = on-ok c.insert.result (c.insert.ensures.succeeds (omega (arith, c.in_ok-reserve.ensures.ok))) c.insert.ensures.entries in
    let inserted : c.insert.new.self.entries ≡ entries ++ (name_of_key key, new) ∷ [] =
    put
    ∙ ap (λ (es : List (SheetName × Entry)). insert_entry same_name es c.of_key.result c.new.result) c.in_ok-reserve.ensures.entries
    ∙ ap₂ (λ (name : SheetName) (entry : Entry). insert_entry same_name entries name entry) c.of_key.ensures
    (c.new.ensures ∙ ap (λ n. record { at = n; holder = None; decided = [] }) c.len-at.ensures)
    ∙ insert-new same_name 0 entries (name_of_key key) new none in
    subst (λ (es : List (SheetName × Entry)). IsKept election c.push.new.self es) (sym inserted)
    (subst (λ (events : List Event). IsKept election events (entries ++ (name_of_key key, new) ∷ [])) (sym pushed)
    (kept-add election kept entries c.self.invariant key sheet fits done))
