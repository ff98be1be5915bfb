-- A sheet that an event of a history adds is the only one of its key.
use Rattle.std.proofs.Common.{◌≡◌, ℕ, zero, suc, ◌+◌, ◌<◌, ◌≤◌, Bool, true, false, cond, List, [], ◌∷◌, ◌++◌, length, refl, sym, ap, ap₂, ◌∙◌, arith, append_assoc}
use Rattle.std.specs.Prelude.{filter, Some, slice_get}
use Rattle.std.proofs.lemmas.List.Elements.{filter-append}
use Rattle.std.proofs.lemmas.Option.{same_Some}
use Rattle.vx_base.proofs.Lists.{at-seam}
use Rattle.vx_election_model.specs.declared.election.Election.{Election}
use Rattle.vx_rules.specs.declared.marks.SheetMarks.{SheetMarks}
use Rattle.vx_events.specs.declared.event.Event.{Event}
use Rattle.vx_events.specs.declared.event.Event.TheVariants.{Add, Claim, Release, Decide}
use Rattle.vx_events.specs.declared.key.Key.{Key}
use Rattle.vx_center.specs.Histories.{IsHistory}
use Rattle.vx_center.specs.Laws.{AddedSheetsAreAlone, SheetsHaveOwnPlaces}
use Rattle.vx_center.specs.Sheets.{Added, added_from, has_key, sheets_in}
use Rattle.vx_center.proofs.Adding.{added-append}
use Rattle.vx_center.proofs.Keys.{same-equal, same-self}
use Rattle.vx_center.proofs.OwnSheets.{own-keys}

-- an added sheet has the place of its event
record Within (place : ℕ) (events : List Event) (added : Added) : Type 0 where
  pub least : place ≤ added.at
  pub most : added.at < place + length events

one-further : (place : ℕ) (event : Event) (events : List Event) (added : Added) → Within (place + 1) events added → Within place (event ∷ events) added
one-further place event events added within = record { least = omega (arith, within.least); most = omega (arith, within.most) }

within : (place : ℕ) (events : List Event) (n : ℕ) (added : Added) → slice_get (added_from place events) n ≡ Some added → Within place events added
within place [] n added h = absurd cc
within place (Add key sheet ∷ events) zero added h =
    let at : place ≡ added.at = ap (λ (a : Added). a.at) (same_Some (record { at = place; key = key; sheet = sheet }) added h) in
    record { least = omega (arith, at); most = omega (arith, at) }
within place (Add key sheet ∷ events) (suc n) added h = one-further place (Add key sheet) events added (within (place + 1) events n added h)
within place (Claim station key ∷ events) n added h = one-further place (Claim station key) events added (within (place + 1) events n added h)
within place (Release station key ∷ events) n added h = one-further place (Release station key) events added (within (place + 1) events n added h)
within place (Decide station key contest decision ∷ events) n added h =
    one-further place (Decide station key contest decision) events added (within (place + 1) events n added h)

-- none of a list passes
filter-none : {X : Type 0} (test : X → Bool) (xs : List X) → ((n : ℕ) (x : X) → slice_get xs n ≡ Some x → test x ≡ true → ⊥) → filter test xs ≡ []
filter-none test [] none = refl
filter-none {X} test (x ∷ xs) none = by (test x) refl (filter-none test xs (λ n y there. none (suc n) y there))
  where
    by : (b : Bool) → test x ≡ b → filter test xs ≡ [] → cond b (x ∷ filter test xs) (filter test xs) ≡ []
    by true is rest = absurd (none 0 x refl is)
    by false is rest = rest

-- places in a list that has two parts
in-front : {X : Type 0} (xs ys : List X) (n : ℕ) (x : X) → slice_get xs n ≡ Some x → slice_get (xs ++ ys) n ≡ Some x
in-front [] ys n x h = absurd cc
in-front (y ∷ xs) ys zero x h = h
in-front (y ∷ xs) ys (suc n) x h = in-front xs ys n x h

in-back : {X : Type 0} (xs ys : List X) (n : ℕ) (x : X) → slice_get ys n ≡ Some x → (place : ℕ) × (slice_get (xs ++ ys) place ≡ Some x)
in-back [] ys n x h = (n, h)
in-back (y ∷ xs) ys n x h = let rest = in-back xs ys n x h in (suc rest.0, rest.1)

-- in a history no other sheet than the one that an event adds has its key
module _ (election : Election) (before more : List Event) (key : Key) (sheet : SheetMarks)
    (kept : List Event) (are : kept ≡ before ++ Add key sheet ∷ more) (history : IsHistory election kept) where
  abbrev added : Added
  added = record { at = 0 + length before; key = key; sheet = sheet }

  abbrev behind : List Added
  behind = added_from (0 + length before + 1) more

  parted : sheets_in kept ≡ sheets_in before ++ added ∷ behind
  parted = ap sheets_in are ∙ added-append 0 before (Add key sheet ∷ more)

  at-place : (n : ℕ) (x : Added) → slice_get (sheets_in before ++ added ∷ behind) n ≡ Some x → slice_get (sheets_in kept) n ≡ Some x
  at-place n x h = ap (λ (sheets : List Added). slice_get sheets n) parted ∙ h

  same-one : (n : ℕ) (x : Added) → slice_get (sheets_in before ++ added ∷ behind) n ≡ Some x → has_key key x ≡ true → added ≡ x
  same-one n x there keyed =
      own-keys election kept (length (sheets_in before)) n added x history
      (at-place (length (sheets_in before)) added (at-seam (sheets_in before) added behind))
      (at-place n x there) (same-equal key x.key keyed)

  none-before : (n : ℕ) (x : Added) → slice_get (sheets_in before) n ≡ Some x → has_key key x ≡ true → ⊥
  none-before n x there keyed =
      let same = same-one n x (in-front (sheets_in before) (added ∷ behind) n x there) keyed in
      let at : 0 + length before ≡ x.at = ap (λ (one : Added). one.at) same in
      let inside = within 0 before n x there in
      omega (arith, at, inside.most)

  none-behind : (n : ℕ) (x : Added) → slice_get behind n ≡ Some x → has_key key x ≡ true → ⊥
  none-behind n x there keyed =
      let place = in-back (sheets_in before) (added ∷ behind) (suc n) x there in
      let same = same-one place.0 x place.1 keyed in
      let at : 0 + length before ≡ x.at = ap (λ (one : Added). one.at) same in
      let inside = within (0 + length before + 1) more n x there in
      omega (arith, at, inside.least)

  pub alone : filter (has_key key) (sheets_in kept) ≡ added ∷ []
  alone =
      ap (filter (has_key key)) parted
      ∙ filter-append (has_key key) (sheets_in before) (added ∷ behind)
      ∙ ap₂ (λ (xs ys : List Added). xs ++ ys) (filter-none (has_key key) (sheets_in before) none-before) here
    where
      here : filter (has_key key) (added ∷ behind) ≡ added ∷ []
      here =
          ap (λ (b : Bool). cond b (added ∷ filter (has_key key) behind) (filter (has_key key) behind)) (same-self key)
          ∙ ap (λ (xs : List Added). added ∷ xs) (filter-none (has_key key) behind none-behind)

pub added-alone : AddedSheetsAreAlone
added-alone election before more key sheet kept are history =
    let same : 0 + length before ≡ length before = omega arith in
    alone election before more key sheet kept are history ∙ ap with-place same
  where
    with-place : ℕ → List Added
    with-place place = record { at = place; key = key; sheet = sheet } ∷ []

-- two sheets of one event are one
same-event : (place : ℕ) (events : List Event) (n m : ℕ) (one other : Added) → slice_get (added_from place events) n ≡ Some one
    → slice_get (added_from place events) m ≡ Some other → one.at ≡ other.at → n ≡ m
same-event place [] n m one other here there same = absurd cc
same-event place (Add key sheet ∷ events) zero zero one other here there same = refl
same-event place (Add key sheet ∷ events) zero (suc m) one other here there same =
    let at : place ≡ one.at = ap (λ (a : Added). a.at) (same_Some (record { at = place; key = key; sheet = sheet }) one here) in
    let behind = within (place + 1) events m other there in
    absurd (omega (arith, at, behind.least, same))
same-event place (Add key sheet ∷ events) (suc n) zero one other here there same =
    let at : place ≡ other.at = ap (λ (a : Added). a.at) (same_Some (record { at = place; key = key; sheet = sheet }) other there) in
    let behind = within (place + 1) events n one here in
    absurd (omega (arith, at, behind.least, same))
same-event place (Add key sheet ∷ events) (suc n) (suc m) one other here there same = ap suc (same-event (place + 1) events n m one other here there same)
same-event place (Claim station key ∷ events) n m one other here there same = same-event (place + 1) events n m one other here there same
same-event place (Release station key ∷ events) n m one other here there same = same-event (place + 1) events n m one other here there same
same-event place (Decide station key contest decision ∷ events) n m one other here there same =
    same-event (place + 1) events n m one other here there same

-- so two sheets of one key have one place
pub own-places : SheetsHaveOwnPlaces
own-places election kept place further one other history here there key =
    let same = own-keys election kept place further one other history here there key in
    same-event 0 kept place further one other here there (ap (λ (a : Added). a.at) same)
