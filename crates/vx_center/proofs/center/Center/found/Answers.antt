use Rattle.std.proofs.Common.{◌≡◌, ◌<◌, ◌∙◌, ap, sym, subst, refl, length, arith, true, false, Some, List}
use Rattle.std.specs.Prelude.{slice_get}
use Rattle.std.proofs.lemmas.Option.{slice_get_read, slice_get_within, same_Some}
use Rattle.vx_events.specs.declared.event.Event.{Event}
use Rattle.vx_center.specs.Kept.{Kept}
use Rattle.vx_center.specs.States.{IsAt, is_add}
use Rattle.vx_center.proofs.Finding.{found-at, event-there}
use Rattle.vx_center.proofs.center.Center.found.Goals as goal

pub returns-in_err-get : goal.returns-in_err-get
returns-in_err-get c =
    let inside = c.self.inside in
    let own = event-there inside.election.now inside.events inside.sheets.entries c.self.invariant c.args.place _ c.in_ok-entry.entry.now (sym c.in_ok-entry.ensures.entry) in
    let within = slice_get_within inside.events c.in_ok-entry.entry.now.at _ own.2 in
    absurd (omega (arith, within, c.in_err-get.ensures.lookup.3, c.at.ensures, ap length c.as_slice.ensures))

pub returns-in_err-key : goal.returns-in_err-key
returns-in_err-key c =
    let inside = c.self.inside in
    let own = event-there inside.election.now inside.events inside.sheets.entries c.self.invariant c.args.place _ c.in_ok-entry.entry.now (sym c.in_ok-entry.ensures.entry) in
    let events = c.as_slice.result.now in
    let event = c.in_ok-get.field-0.now in
    let lookup = c.in_ok-get.ensures.lookup in
    let read : slice_get events c.at.result ≡ Some event = slice_get_read events (length events) c.at.result event refl lookup.3.0 lookup.1 in
    let same = sym read ∙ ap (λ (list : List Event). slice_get list c.at.result) c.as_slice.ensures ∙ ap (slice_get inside.events) c.at.ensures ∙ own.2 in
    let no : true ≡ false = sym (ap is_add (same_Some _ _ same)) ∙ c.in_err-key.ensures in
    absurd cc

pub returns : goal.returns
returns c =
    let inside = c.self.inside in
    let entry = c.in_ok-entry.entry.now in
    let events = c.as_slice.result.now in
    let event = c.in_ok-get.field-0.now in
    let lookup = c.in_ok-get.ensures.lookup in
    let read : slice_get events c.at.result ≡ Some event = slice_get_read events (length events) c.at.result event refl lookup.3.0 lookup.1 in
    let there = sym (ap (slice_get inside.events) c.at.ensures) ∙ sym (ap (λ (list : List Event). slice_get list c.at.result) c.as_slice.ensures) ∙ read ∙ ap Some c.in_ok-key.ensures in
    subst (λ (k : Kept). IsAt k.election k.events c.args.place c.in_ok-key.key.now c.in_ok-key.sheet.now entry) c.self.view_is
    (found-at inside.election.now inside.events inside.sheets.entries c.self.invariant c.args.place _ entry c.in_ok-key.key.now c.in_ok-key.sheet.now (sym c.in_ok-entry.ensures.entry) there)
