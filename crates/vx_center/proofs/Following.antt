-- What one event more changes.
use Rattle.std.proofs.Common.{◌≡◌, ℕ, zero, suc, ◌+◌, ◌<◌, ◌≤◌, ◌⊎◌, inl, inr, Bool, true, false, cond, List, [], ◌∷◌, ◌++◌, length, take, refl, sym, ap, ◌∙◌, subst, arith, append-nil}
use Rattle.std.specs.Prelude.{Option, Some, None, slice_get, nat_lt, fold}
use Rattle.std.specs.List.{flat_map, position_from}
use Rattle.std.proofs.lemmas.List.{take-append-le, take_at}
use Rattle.std.proofs.lemmas.List.Sums.{fold_push}
use Rattle.std.proofs.lemmas.List.Concat.{flat_map-append}
use Rattle.std.proofs.lemmas.Option.{same_Some, slice_get_within}
use Rattle.vx_base.proofs.Lists.{at-push}
use Rattle.vx_election_model.specs.declared.election.Election.{Election}
use Rattle.vx_rules.specs.declared.marks.SheetMarks.{SheetMarks}
use Rattle.vx_events.specs.declared.event.Event.{Event}
use Rattle.vx_events.specs.declared.event.Event.TheVariants.{Add, Claim, Release, Decide}
use Rattle.vx_events.specs.declared.key.Key.{Key}
use Rattle.vx_refusals.specs.declared.reply.Reply.{Reply}
use Rattle.vx_refusals.specs.declared.reply.Reply.TheVariants.{Done, NoSheet, Full, Repeated}
use Rattle.vx_events.specs.Fits.{Fits}
use Rattle.vx_center.specs.declared.decided.Decided.{Decided}
use Rattle.vx_center.specs.Sheets.{Added, same_key, has_key, added_by, sheets_in, sheet_of, place_in, sheet_in}
use Rattle.vx_center.specs.Holders.{holder_after, holder_of}
use Rattle.vx_center.specs.Decisions.{decided_by, decided_of}
use Rattle.vx_center.specs.Replies.{reply_of, reply_with_room, event_limit, on_sheet, add_reply}
use Rattle.vx_center.specs.Histories.{IsHistory}
use Rattle.vx_center.proofs.Places.{Missing, Located, locate}
use Rattle.vx_center.proofs.Adding.{sheets-push}
use Rattle.vx_center.proofs.Keys.{same-equal}

pub holder-push : (kept : List Event) (event : Event) (key : Key) → holder_of (kept ++ event ∷ []) key ≡ holder_after key (holder_of kept key) event
holder-push kept event key = fold_push (holder_after key) None kept event

pub decided-push : (kept : List Event) (event : Event) (key : Key) → decided_of (kept ++ event ∷ []) key ≡ decided_of kept key ++ decided_by key event
decided-push kept event key =
    flat_map-append (decided_by key) kept (event ∷ [])
    ∙ ap (λ (more : List Decided). decided_of kept key ++ more) (append-nil (decided_by key event))

-- an event that doesn't concern the sheet with a key
pub record LeavesAlone (key : Key) (event : Event) : Type 0 where
  pub holder : (held : Option ℕ) → holder_after key held event ≡ held
  pub decided : decided_by key event ≡ []

pub alone-add : (key other : Key) (sheet : SheetMarks) → LeavesAlone key (Add other sheet)
alone-add key other sheet = record { holder = λ held. refl; decided = refl }

-- the key of the sheet that an event is about
abbrev pub key_of : Event → Key
key_of (Add key sheet) = key
key_of (Claim station key) = key
key_of (Release station key) = key
key_of (Decide station key contest decision) = key

-- what concerns another sheet doesn't concern this one
pub alone-apart : (key : Key) (event : Event) → same_key key (key_of event) ≡ false → LeavesAlone key event
alone-apart key (Add other sheet) apart = alone-add key other sheet
alone-apart key (Claim station other) apart = record {
  holder = λ held. ap (λ (b : Bool). cond b (Some station) held) apart;
  decided = refl;
}
alone-apart key (Release station other) apart = record {
  holder = λ held. ap (λ (b : Bool). cond b None held) apart;
  decided = refl;
}
alone-apart key (Decide station other contest decision) apart = record {
  holder = λ held. refl;
  decided = ap (λ (b : Bool). cond b (record { contest = contest; decision = decision } ∷ []) []) apart;
}

pub holder-alone : (kept : List Event) (event : Event) (key : Key) → LeavesAlone key event → holder_of (kept ++ event ∷ []) key ≡ holder_of kept key
holder-alone kept event key alone = holder-push kept event key ∙ alone.holder (holder_of kept key)

pub decided-alone : (kept : List Event) (event : Event) (key : Key) → LeavesAlone key event → decided_of (kept ++ event ∷ []) key ≡ decided_of kept key
decided-alone kept event key alone =
    decided-push kept event key
    ∙ ap (λ (more : List Decided). decided_of kept key ++ more) alone.decided
    ∙ append-nil (decided_of kept key)

-- where there is no room the answer is never Done
pub with-room : (election : Election) (kept : List Event) (event : Event) → reply_of election kept event ≡ Done → reply_with_room election kept event ≡ Done
with-room election kept event h = by (nat_lt (length kept) event_limit) h
  where
    by : (b : Bool) → cond b (reply_with_room election kept event) (Full event_limit) ≡ Done → reply_with_room election kept event ≡ Done
    by true h = h
    by false h = absurd cc

-- a sheet is found by its place or by its key, or by neither
pub record NotAdded (kept : List Event) (key : Key) : Type 0 where
  pub place : place_in kept key ≡ None
  pub sheet : sheet_in kept key ≡ None

pub record IsAdded (kept : List Event) (key : Key) : Type 0 where
  pub index : ℕ
  pub added : Added
  pub place : place_in kept key ≡ Some index
  pub sheet : sheet_in kept key ≡ Some added.sheet
  pub there : slice_get (sheets_in kept) index ≡ Some added
  pub keyed : key ≡ added.key

pub look-up : (kept : List Event) (key : Key) → NotAdded kept key ⊎ IsAdded kept key
look-up kept key = by (locate (has_key key) 0 (sheets_in kept))
  where
    by : Missing (has_key key) 0 (sheets_in kept) ⊎ Located (has_key key) 0 (sheets_in kept) → NotAdded kept key ⊎ IsAdded kept key
    by (inl missing) = inl (record { place = missing.place; sheet = ap sheet_of missing.found })
    by (inr located) =
        let same : 0 + located.index ≡ located.index = omega arith in
        inr (record {
          index = located.index;
          added = located.element;
          place = located.place ∙ ap Some same;
          sheet = ap sheet_of located.found;
          there = located.there;
          keyed = same-equal key located.element.key located.passes;
        })

-- an event that asks something of a sheet: any but an Add
abbrev pub Asks : Event → Type 0
Asks (Add key sheet) = ⊥
Asks (Claim station key) = Unit {0}
Asks (Release station key) = Unit {0}
Asks (Decide station key contest decision) = Unit {0}

never : (sheet : Option SheetMarks) (reply : SheetMarks → Reply) → sheet ≡ None → on_sheet sheet reply ≡ Done → ⊥
never sheet reply none h = let no : NoSheet ≡ Done = sym (ap (λ (o : Option SheetMarks). on_sheet o reply) none) ∙ h in absurd cc

refused : (election : Election) (kept : List Event) (event : Event) → Asks event → sheet_in kept (key_of event) ≡ None → reply_with_room election kept event ≡ Done → ⊥
refused election kept (Add key sheet) asks none h = asks
refused election kept (Claim station key) asks none h = never (sheet_in kept key) _ none h
refused election kept (Release station key) asks none h = never (sheet_in kept key) _ none h
refused election kept (Decide station key contest decision) asks none h = never (sheet_in kept key) _ none h

-- where such an event is Done the sheet was added
pub done-asks : (election : Election) (kept : List Event) (event : Event) → Asks event → reply_of election kept event ≡ Done → IsAdded kept (key_of event)
done-asks election kept event asks h = by (look-up kept (key_of event))
  where
    by : NotAdded kept (key_of event) ⊎ IsAdded kept (key_of event) → IsAdded kept (key_of event)
    by (inl missing) = absurd (refused election kept event asks missing.sheet (with-room election kept event h))
    by (inr is) = is

-- and where an Add is Done it wasn't
pub done-adds : (election : Election) (kept : List Event) (key : Key) (sheet : SheetMarks) → reply_of election kept (Add key sheet) ≡ Done → place_in kept key ≡ None
done-adds election kept key sheet h = by (place_in kept key) (with-room election kept (Add key sheet) h)
  where
    by : (place : Option ℕ) → add_reply place ≡ Done → place ≡ None
    by None h = refl
    by (Some place) h = absurd cc

-- a history of one event more
pub history-push : (election : Election) (kept : List Event) (event : Event) → IsHistory election kept → Fits election event → reply_of election kept event ≡ Done → IsHistory election (kept ++ event ∷ [])
history-push election kept event history fits done = record {
  fits = λ place one h. fits-at place one (at-push kept event place one h);
  done = λ place one h. done-at place one (at-push kept event place one h);
}
  where
    fits-at : (place : ℕ) (one : Event) → ((place < length kept) × (slice_get kept place ≡ Some one)) ⊎ ((place ≡ length kept) × (event ≡ one)) → Fits election one
    fits-at place one (inl front) = history.fits place one front.1
    fits-at place one (inr last) = subst (Fits election) last.1 fits

    done-at : (place : ℕ) (one : Event) → ((place < length kept) × (slice_get kept place ≡ Some one)) ⊎ ((place ≡ length kept) × (event ≡ one)) → reply_of election (take place (kept ++ event ∷ [])) one ≡ Done
    done-at place one (inl front) =
        let within : place ≤ length kept = omega (arith, front.0) in
        ap (λ (before : List Event). reply_of election before one) (take-append-le place kept (event ∷ []) within)
        ∙ history.done place one front.1
    done-at place one (inr last) =
        ap (λ (before : List Event). reply_of election before one) (take_at kept (event ∷ []) place (sym last.0))
        ∙ ap (reply_of election kept) (sym last.1) ∙ done

-- the sheets stay the same where none is added
pub sheets-same : (kept : List Event) (event : Event) → Asks event → sheets_in (kept ++ event ∷ []) ≡ sheets_in kept
sheets-same kept (Add key sheet) asks = absurd asks
sheets-same kept (Claim station key) asks = sheets-push kept _ ∙ append-nil (sheets_in kept)
sheets-same kept (Release station key) asks = sheets-push kept _ ∙ append-nil (sheets_in kept)
sheets-same kept (Decide station key contest decision) asks = sheets-push kept _ ∙ append-nil (sheets_in kept)

pub place-same : (kept : List Event) (event : Event) (key : Key) → Asks event → place_in (kept ++ event ∷ []) key ≡ place_in kept key
place-same kept event key asks = ap (position_from (has_key key) 0) (sheets-same kept event asks)
