-- The sheets that events add.
use Rattle.std.proofs.Common.{◌≡◌, ℕ, zero, suc, ◌+◌, ◌<◌, ◌≤◌, List, [], ◌∷◌, ◌++◌, length, refl, sym, ap, ◌∙◌, subst, arith, append_assoc, append-nil}
use Rattle.std.specs.Prelude.{Option, Some, None, slice_get}
use Rattle.std.proofs.lemmas.Option.{same_Some}
use Rattle.vx_events.specs.declared.event.Event.{Event}
use Rattle.vx_events.specs.declared.event.Event.TheVariants.{Add, Claim, Release, Decide}
use Rattle.vx_center.specs.Sheets.{Added, added_by, added_from, sheets_in}

-- more events add their sheets behind
pub added-append : (place : ℕ) (events more : List Event) → added_from place (events ++ more) ≡ added_from place events ++ added_from (place + length events) more
added-append place [] more =
    let same : place ≡ place + 0 = omega arith in ap (λ n. added_from n more) same
added-append place (event ∷ events) more =
    let same : place + 1 + length events ≡ place + suc (length events) = omega arith in
    ap (λ (rest : List Added). added_by place event ++ rest) (added-append (place + 1) events more)
    ∙ sym (append_assoc (added_by place event) (added_from (place + 1) events) (added_from (place + 1 + length events) more))
    ∙ ap (λ n. added_by place event ++ added_from (place + 1) events ++ added_from n more) same

-- one event more
pub sheets-push : (kept : List Event) (event : Event) → sheets_in (kept ++ event ∷ []) ≡ sheets_in kept ++ added_by (length kept) event
sheets-push kept event =
    let same : 0 + length kept ≡ length kept = omega arith in
    added-append 0 kept (event ∷ [])
    ∙ ap (λ (rest : List Added). sheets_in kept ++ rest) (append-nil (added_by (0 + length kept) event))
    ∙ ap (λ n. sheets_in kept ++ added_by n event) same

-- there are no more sheets than events
pub few-sheets : (place : ℕ) (events : List Event) → length (added_from place events) ≤ length events
few-sheets place [] = omega arith
few-sheets place (Add key sheet ∷ events) = let rest = few-sheets (place + 1) events in omega arith
few-sheets place (Claim station key ∷ events) = let rest = few-sheets (place + 1) events in omega arith
few-sheets place (Release station key ∷ events) = let rest = few-sheets (place + 1) events in omega arith
few-sheets place (Decide station key contest decision ∷ events) = let rest = few-sheets (place + 1) events in omega arith

-- the event of an added sheet stands at its place
pub record StandsAt (place : ℕ) (events : List Event) (added : Added) : Type 0 where
  pub index : ℕ
  pub at : added.at ≡ place + index
  pub event : slice_get events index ≡ Some (Add added.key added.sheet)

further : (place : ℕ) (event : Event) (events : List Event) (added : Added) → StandsAt (place + 1) events added → StandsAt place (event ∷ events) added
further place event events added stands = record {
  index = suc stands.index;
  at = omega (arith, stands.at);
  event = stands.event;
}

pub stands-at : (place : ℕ) (events : List Event) (i : ℕ) (added : Added) → slice_get (added_from place events) i ≡ Some added → StandsAt place events added
stands-at place [] i added h = absurd cc
stands-at place (Add key sheet ∷ events) zero added h =
    let same : added ≡ record { at = place; key = key; sheet = sheet } = sym (same_Some _ _ h) in
    record {
      index = 0;
      at = let at : added.at ≡ place = ap (λ (a : Added). a.at) same in omega arith;
      event = ap (λ (a : Added). Some (Add a.key a.sheet)) (sym same);
    }
stands-at place (Add key sheet ∷ events) (suc i) added h = further place _ events added (stands-at (place + 1) events i added h)
stands-at place (Claim station key ∷ events) i added h = further place _ events added (stands-at (place + 1) events i added h)
stands-at place (Release station key ∷ events) i added h = further place _ events added (stands-at (place + 1) events i added h)
stands-at place (Decide station key contest decision ∷ events) i added h = further place _ events added (stands-at (place + 1) events i added h)

-- and so it does among the kept ones
pub event-of : (kept : List Event) (i : ℕ) (added : Added) → slice_get (sheets_in kept) i ≡ Some added → slice_get kept added.at ≡ Some (Add added.key added.sheet)
event-of kept i added h =
    let stands = stands-at 0 kept i added h in
    let same : stands.index ≡ added.at = omega (arith, stands.at) in
    subst (λ n. slice_get kept n ≡ Some (Add added.key added.sheet)) same stands.event
