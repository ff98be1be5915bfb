-- What is kept of the sheets behind one event more.
use Rattle.std.proofs.Common.{◌≡◌, ◌≢◌, ℕ, zero, suc, ◌+◌, ◌<◌, ◌⊎◌, inl, inr, Bool, true, false, cond, List, [], ◌∷◌, ◌++◌, length, map, refl, sym, ap, ap₂, ◌∙◌, subst, arith, append-nil}
use Rattle.std.specs.Prelude.{Option, Some, None, slice_get}
use Rattle.std.specs.Option.{option_map}
use Rattle.std.specs.List.{position_from}
use Rattle.std.specs.Map.{values_of}
use Rattle.indexmap.specs.IndexMap.{set_value_at}
use Rattle.std.proofs.lemmas.List.{map_push}
use Rattle.std.proofs.lemmas.Option.{same_Some, slice_get-map}
use Rattle.vx_base.proofs.Lists.{at-push}
use Rattle.vx_election_model.specs.declared.election.Election.{Election}
use Rattle.vx_rules.specs.declared.marks.SheetMarks.{SheetMarks}
use Rattle.vx_events.specs.declared.event.Event.{Event}
use Rattle.vx_events.specs.declared.event.Event.TheVariants.{Add, Claim, Release, Decide}
use Rattle.vx_events.specs.declared.decision.Decision.{Decision}
use Rattle.vx_events.specs.declared.key.Key.{Key}
use Rattle.vx_refusals.specs.declared.reply.Reply.TheVariants.{Done}
use Rattle.vx_events.specs.Fits.{Fits}
use Rattle.vx_center.specs.declared.decided.Decided.{Decided}
use Rattle.vx_center.specs.declared.name.SheetName.{SheetName}
use Rattle.vx_center.specs.Sheets.{Added, same_key, has_key, sheets_in, place_in}
use Rattle.vx_center.specs.Holders.{holder_after, holder_of}
use Rattle.vx_center.specs.Decisions.{decided_by, decided_of}
use Rattle.vx_center.specs.Replies.{reply_of}
use Rattle.vx_center.specs.States.{Entry, entry_of, named_entry, name_of_key, IsQuiet, IsKept, HandsTo}
use Rattle.vx_center.proofs.Places.{position_from-front, position_from-behind, position_from-none, map-same, map-but_one}
use Rattle.vx_center.proofs.Adding.{sheets-push}
use Rattle.vx_center.proofs.Keys.{same-self, same-equal, other-apart}
use Rattle.vx_center.proofs.Following.{LeavesAlone, Asks, IsAdded, key_of, alone-add, alone-apart, holder-push, decided-push, holder-alone, decided-alone, done-asks, done-adds, history-push, sheets-same, place-same}

-- what is kept of a sheet stays where an event leaves it alone
pub named-alone : (kept : List Event) (event : Event) (added : Added) → LeavesAlone added.key event → named_entry (kept ++ event ∷ []) added ≡ named_entry kept added
named-alone kept event added alone =
    ap₂ (λ (held : Option ℕ) (decided : List Decided). (name_of_key added.key, record { at = added.at; holder = held; decided = decided }))
    (holder-alone kept event added.key alone) (decided-alone kept event added.key alone)

quiet-alone : (kept : List Event) (event : Event) (key : Key) → LeavesAlone key event → IsQuiet kept key → IsQuiet (kept ++ event ∷ []) key
quiet-alone kept event key alone quiet = record {
  free = holder-alone kept event key alone ∙ quiet.free;
  undecided = decided-alone kept event key alone ∙ quiet.undecided;
}

module _ (election : Election) (kept : List Event) (entries : List (SheetName × Entry)) (is : IsKept election kept entries) where
  -- a sheet that is added
  pub kept-add : (key : Key) (sheet : SheetMarks) → Fits election (Add key sheet) → reply_of election kept (Add key sheet) ≡ Done
      → IsKept election (kept ++ Add key sheet ∷ []) (entries ++ (name_of_key key, record { at = length kept; holder = None; decided = [] }) ∷ [])
  kept-add key sheet fits done = record {
    valid = is.valid;
    history = history-push election kept event is.history fits done;
    entries = entries-are;
    own = λ place added h. own-at place added (at-push (sheets_in kept) new place added (ap (λ (s : List Added). slice_get s place) (sym sheets-are) ∙ h));
    quiet = λ other none. quiet-alone kept event other (alone-add other key sheet) (is.quiet other (none-before other none));
  }
    where
      event : Event
      event = Add key sheet

      new : Added
      new = record { at = length kept; key = key; sheet = sheet }

      sheets-are : sheets_in (kept ++ event ∷ []) ≡ sheets_in kept ++ new ∷ []
      sheets-are = sheets-push kept event

      quiet-here : IsQuiet kept key
      quiet-here = is.quiet key (done-adds election kept key sheet done)

      new-is : named_entry (kept ++ event ∷ []) new ≡ (name_of_key key, record { at = length kept; holder = None; decided = [] })
      new-is =
          named-alone kept event new (alone-add key key sheet)
          ∙ ap₂ (λ (held : Option ℕ) (decided : List Decided). (name_of_key key, record { at = length kept; holder = held; decided = decided })) quiet-here.free quiet-here.undecided

      entries-are : entries ++ (name_of_key key, record { at = length kept; holder = None; decided = [] }) ∷ [] ≡ map (named_entry (kept ++ event ∷ [])) (sheets_in (kept ++ event ∷ []))
      entries-are =
          ap₂ (λ (front : List (SheetName × Entry)) (last : SheetName × Entry). front ++ last ∷ [])
          (is.entries ∙ sym (map-same (named_entry kept) (named_entry (kept ++ event ∷ [])) (sheets_in kept) (λ i added there. named-alone kept event added (alone-add added.key key sheet))))
          (sym new-is)
          ∙ sym (map_push (named_entry (kept ++ event ∷ [])) (sheets_in kept) new)
          ∙ ap (map (named_entry (kept ++ event ∷ []))) (sym sheets-are)

      none-before : (other : Key) → place_in (kept ++ event ∷ []) other ≡ None → place_in kept other ≡ None
      none-before other none = position_from-none (has_key other) 0 (sheets_in kept) (new ∷ []) (ap (position_from (has_key other) 0) (sym sheets-are) ∙ none)

      own-at : (place : ℕ) (added : Added) → ((place < length (sheets_in kept)) × (slice_get (sheets_in kept) place ≡ Some added)) ⊎ ((place ≡ length (sheets_in kept)) × (new ≡ added)) → place_in (kept ++ event ∷ []) added.key ≡ Some place
      own-at place added (inl front) =
          ap (position_from (has_key added.key) 0) sheets-are
          ∙ position_from-front (has_key added.key) 0 (sheets_in kept) (new ∷ []) place (is.own place added front.1)
      own-at place added (inr last) =
          let there : 0 + length (sheets_in kept) ≡ place = omega (arith, last.0) in
          ap (position_from (has_key added.key) 0) sheets-are
          ∙ ap (λ (k : Key). position_from (has_key k) 0 (sheets_in kept ++ new ∷ [])) (ap (λ (a : Added). a.key) (sym last.1))
          ∙ position_from-behind (has_key key) 0 (sheets_in kept) (new ∷ []) (done-adds election kept key sheet done)
          ∙ ap (λ (b : Bool). cond b (Some (0 + length (sheets_in kept))) None) (same-self key)
          ∙ ap Some there

  -- the sheet that an event is about, where it is Done
  module _ (event : Event) (asks : Asks event) (fits : Fits election event) (done : reply_of election kept event ≡ Done) (place : ℕ) (found : place_in kept (key_of event) ≡ Some place) where
    -- it stands at the place where it was found
    pub added-there : (added : Added) × (slice_get (sheets_in kept) place ≡ Some added) × (added.key ≡ key_of event)
    added-there =
        let is-added = done-asks election kept event asks done in
        let same : is-added.index ≡ place = same_Some _ _ (sym is-added.place ∙ found) in
        (is-added.added, subst (λ n. slice_get (sheets_in kept) n ≡ Some is-added.added) same is-added.there, sym is-added.keyed)

    -- what is kept of it
    pub entry-there : (old : Entry) → slice_get (values_of entries) place ≡ Some old → entry_of kept added-there.0 ≡ old
    entry-there old at =
        let there = added-there.1 in
        let values : slice_get (values_of entries) place ≡ Some (entry_of kept added-there.0) =
        ap (λ (es : List (SheetName × Entry)). slice_get (values_of es) place) is.entries
        ∙ slice_get-map (λ (e : SheetName × Entry). e.1) (map (named_entry kept) (sheets_in kept)) place
        ∙ ap (option_map (λ (e : SheetName × Entry). e.1)) (slice_get-map (named_entry kept) (sheets_in kept) place)
        ∙ ap (λ (o : Option Added). option_map (λ (e : SheetName × Entry). e.1) (option_map (named_entry kept) o)) there in
        same_Some _ _ (sym values ∙ at)

    -- an event that changes what is kept of its own sheet alone
    pub kept-asks : (new : Entry) → ((added : Added) → slice_get (sheets_in kept) place ≡ Some added → added.key ≡ key_of event → entry_of (kept ++ event ∷ []) added ≡ new)
        → IsKept election (kept ++ event ∷ []) (set_value_at entries place new)
    kept-asks new becomes = record {
      valid = is.valid;
      history = history-push election kept event is.history fits done;
      entries = entries-are;
      own = λ at added h. place-same kept event added.key asks ∙ is.own at added (ap (λ (s : List Added). slice_get s at) (sym (sheets-same kept event asks)) ∙ h);
      quiet = λ other none. quiet-at other (sym (place-same kept event other asks) ∙ none);
    }
      where
        elsewhere : (i : ℕ) (added : Added) → slice_get (sheets_in kept) i ≡ Some added → i ≢ place → named_entry (kept ++ event ∷ []) added ≡ named_entry kept added
        elsewhere i added there apart =
            named-alone kept event added (alone-apart added.key event (other-apart added.key (key_of event)
            (λ e. apart (same_Some i place (sym (is.own i added there) ∙ ap (place_in kept) e ∙ found)))))

        here : (added : Added) → slice_get (sheets_in kept) place ≡ Some added → named_entry (kept ++ event ∷ []) added ≡ ((named_entry kept added).0, new)
        here added there =
            let same : added-there.0 ≡ added = same_Some _ _ (sym added-there.1 ∙ there) in
            ap (λ (entry : Entry). (name_of_key added.key, entry)) (becomes added there (ap (λ (a : Added). a.key) (sym same) ∙ added-there.2))

        entries-are : set_value_at entries place new ≡ map (named_entry (kept ++ event ∷ [])) (sheets_in (kept ++ event ∷ []))
        entries-are =
            ap (λ (es : List (SheetName × Entry)). set_value_at es place new) is.entries
            ∙ sym (map-but_one (named_entry kept) (named_entry (kept ++ event ∷ [])) (sheets_in kept) place new elsewhere here)
            ∙ ap (map (named_entry (kept ++ event ∷ []))) (sym (sheets-same kept event asks))

        quiet-at : (other : Key) → place_in kept other ≡ None → IsQuiet (kept ++ event ∷ []) other
        quiet-at other none =
            quiet-alone kept event other (alone-apart other event (other-apart other (key_of event)
            (λ e. let no : None ≡ Some place = sym none ∙ ap (place_in kept) e ∙ found in absurd cc))) (is.quiet other none)

-- an event that hands a sheet on asks something of it
pub hands-asks : (event : Event) (key : Key) (holder : Option ℕ) → HandsTo event key holder → Asks event
hands-asks (Add other sheet) key holder hands = hands
hands-asks (Claim station other) key holder hands = tt
hands-asks (Release station other) key holder hands = tt
hands-asks (Decide station other contest decision) key holder hands = tt

pub hands-key : (event : Event) (key : Key) (holder : Option ℕ) → HandsTo event key holder → key_of event ≡ key
hands-key (Add other sheet) key holder hands = absurd hands
hands-key (Claim station other) key holder hands = hands.0
hands-key (Release station other) key holder hands = hands.0
hands-key (Decide station other contest decision) key holder hands = absurd hands

hands-holder : (event : Event) (key : Key) (holder held : Option ℕ) → HandsTo event key holder → holder_after (key_of event) held event ≡ holder
hands-holder (Add other sheet) key holder held hands = absurd hands
hands-holder (Claim station other) key holder held hands = ap (λ (b : Bool). cond b (Some station) held) (same-self other) ∙ sym hands.1
hands-holder (Release station other) key holder held hands = ap (λ (b : Bool). cond b None held) (same-self other) ∙ sym hands.1
hands-holder (Decide station other contest decision) key holder held hands = absurd hands

hands-decided : (event : Event) (key other : Key) (holder : Option ℕ) → HandsTo event key holder → decided_by other event ≡ []
hands-decided (Add key sheet) one other holder hands = absurd hands
hands-decided (Claim station key) one other holder hands = refl
hands-decided (Release station key) one other holder hands = refl
hands-decided (Decide station key contest decision) one other holder hands = absurd hands

-- a sheet that is handed on
pub kept-hand : (election : Election) (kept : List Event) (entries : List (SheetName × Entry)) → IsKept election kept entries
    → (event : Event) (key : Key) (holder : Option ℕ) → HandsTo event key holder → Fits election event → reply_of election kept event ≡ Done
    → (place : ℕ) → place_in kept key ≡ Some place → (old : Entry) → slice_get (values_of entries) place ≡ Some old
    → IsKept election (kept ++ event ∷ []) (set_value_at entries place (record { at = old.at; holder = holder; decided = old.decided }))
kept-hand election kept entries is event key holder hands fits done place found old at =
    kept-asks election kept entries is event asks fits done place found-here
    (record { at = old.at; holder = holder; decided = old.decided })
    (λ added there named.
    let was : entry_of kept added ≡ old = old-is added there in
    ap₂ (λ (held : Option ℕ) (decided : List Decided). record { at = added.at; holder = held; decided = decided })
    (holder-push kept event added.key ∙ ap (λ (k : Key). holder_after k (holder_of kept added.key) event) named ∙ hands-holder event key holder (holder_of kept added.key) hands)
    (decided-push kept event added.key ∙ ap (λ (more : List Decided). decided_of kept added.key ++ more) (hands-decided event key added.key holder hands) ∙ append-nil (decided_of kept added.key))
    ∙ ap (λ (entry : Entry). record { at = entry.at; holder = holder; decided = entry.decided }) was)
  where
    asks : Asks event
    asks = hands-asks event key holder hands

    found-here : place_in kept (key_of event) ≡ Some place
    found-here = ap (place_in kept) (hands-key event key holder hands) ∙ found

    old-is : (added : Added) → slice_get (sheets_in kept) place ≡ Some added → entry_of kept added ≡ old
    old-is added there =
        let one = added-there election kept entries is event asks fits done place found-here in
        let same : one.0 ≡ added = same_Some _ _ (sym one.1 ∙ there) in
        ap (entry_of kept) (sym same) ∙ entry-there election kept entries is event asks fits done place found-here old at

-- a decision of a sheet
pub kept-decide : (election : Election) (kept : List Event) (entries : List (SheetName × Entry)) → IsKept election kept entries
    → (station : ℕ) (key : Key) (decided : Decided) → Fits election (Decide station key decided.contest decided.decision)
    → reply_of election kept (Decide station key decided.contest decided.decision) ≡ Done
    → (place : ℕ) → place_in kept key ≡ Some place → (old : Entry) → slice_get (values_of entries) place ≡ Some old
    → IsKept election (kept ++ Decide station key decided.contest decided.decision ∷ [])
    (set_value_at entries place (record { at = old.at; holder = old.holder; decided = old.decided ++ decided ∷ [] }))
kept-decide election kept entries is station key decided fits done place found old at =
    kept-asks election kept entries is event tt fits done place found
    (record { at = old.at; holder = old.holder; decided = old.decided ++ decided ∷ [] })
    (λ added there named.
    let was : entry_of kept added ≡ old = old-is added there in
    ap₂ (λ (held : Option ℕ) (more : List Decided). record { at = added.at; holder = held; decided = more })
    (holder-push kept event added.key)
    (decided-push kept event added.key
    ∙ ap (λ (b : Bool). decided_of kept added.key ++ cond b (decided ∷ []) []) (ap (λ (k : Key). same_key k key) named ∙ same-self key))
    ∙ ap (λ (entry : Entry). record { at = entry.at; holder = entry.holder; decided = entry.decided ++ decided ∷ [] }) was)
  where
    event : Event
    event = Decide station key decided.contest decided.decision

    old-is : (added : Added) → slice_get (sheets_in kept) place ≡ Some added → entry_of kept added ≡ old
    old-is added there =
        let one = added-there election kept entries is event tt fits done place found in
        let same : one.0 ≡ added = same_Some _ _ (sym one.1 ∙ there) in
        ap (entry_of kept) (sym same) ∙ entry-there election kept entries is event tt fits done place found old at
