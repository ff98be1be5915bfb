-- The first Add of a key in a history is done, where the key is new and there is room.
use Rattle.std.proofs.Common.{◌≡◌, ◌⊎◌, inl, inr, ℕ, zero, suc, ◌+◌, ◌<◌, ◌≤◌, Bool, true, false, cond, List, [], ◌∷◌, ◌++◌, length, take, refl, sym, ap, ◌∙◌, arith, append_assoc, append-nil}
use Rattle.std.specs.Prelude.{Some, None, slice_get}
use Rattle.std.specs.List.{position_from}
use Rattle.std.proofs.lemmas.Option.{same_Some}
use Rattle.vx_base.proofs.Numbers.{below-yes}
use Rattle.vx_election_model.specs.declared.election.Election.{Election}
use Rattle.vx_rules.specs.declared.marks.SheetMarks.{SheetMarks}
use Rattle.vx_events.specs.declared.event.Event.{Event}
use Rattle.vx_events.specs.declared.event.Event.TheVariants.{Add, Claim, Release, Decide}
use Rattle.vx_events.specs.declared.key.Key.{Key}
use Rattle.vx_refusals.specs.declared.reply.Reply.{Reply}
use Rattle.vx_refusals.specs.declared.reply.Reply.TheVariants.{Done, Full}
use Rattle.vx_center.specs.Replies.{add_reply, event_limit, is_done, reply_of}
use Rattle.vx_center.specs.Laws.{SameKeysAreEqual, SheetsComeInOrder}
use Rattle.vx_center.specs.Sheets.{Added, added_by, has_key, place_in, same_key, sheets_in}
use Rattle.vx_shared.specs.declared.history.Entry.{Entry}
use Rattle.vx_shared.specs.Laws.{AddOnly, FirstAddsAreDone, IsDoneIn}
use Rattle.vx_shared.specs.Legal.{done_events, done_of}

-- none passes, and the one behind doesn't either
none-pushed : {X : Type 0} (test : X → Bool) (n : ℕ) (xs : List X) (x : X) → position_from test n xs ≡ None → test x ≡ false
    → position_from test n (xs ++ x ∷ []) ≡ None
none-pushed test n [] x none not = ap (λ (b : Bool). cond b (Some n) None) not
none-pushed {X} test n (y ∷ xs) x none not = by (test y) (none-pushed test (n + 1) xs x) none
  where
    by : (b : Bool) → (position_from test (n + 1) xs ≡ None → test x ≡ false → position_from test (n + 1) (xs ++ x ∷ []) ≡ None)
        → cond b (Some n) (position_from test (n + 1) xs) ≡ None → cond b (Some n) (position_from test (n + 1) (xs ++ x ∷ [])) ≡ None
    by true go none = absurd cc
    by false go none = go none not

-- a legal history, call after call
abbrev pub LegalFrom : Election → List Event → List Entry → Type 0
LegalFrom election kept [] = Unit {0}
LegalFrom election kept (call ∷ calls) = (call.reply ≡ reply_of election kept call.event) × LegalFrom election (kept ++ done_of call) calls

legal-from : (election : Election) (calls : List Entry) (kept : List Event)
    → ((place : ℕ) (call : Entry) → slice_get calls place ≡ Some call → call.reply ≡ reply_of election (kept ++ done_events (take place calls)) call.event)
    → LegalFrom election kept calls
legal-from election [] kept legal = tt
legal-from election (call ∷ calls) kept legal = (
  legal 0 call refl ∙ ap (λ (events : List Event). reply_of election events call.event) (append-nil kept),
  legal-from election calls (kept ++ done_of call)
      (λ place one at. legal (suc place) one at
      ∙ ap (λ (events : List Event). reply_of election events one.event) (sym (append_assoc kept (done_of call) (done_events (take place calls))))),
)

behind : (call : Entry) (calls : List Entry) (event : Event) → IsDoneIn calls event → IsDoneIn (call ∷ calls) event
behind call calls event it = record {
  front = done_of call ++ it.front;
  back = it.back;
  are = ap (λ (some : List Event). done_of call ++ some) it.are ∙ sym (append_assoc (done_of call) it.front (event ∷ it.back));
}

pushed : (xs : List Event) (x : Event) → length (xs ++ x ∷ []) ≡ suc (length xs)
pushed [] x = refl
pushed (y ∷ xs) x = ap suc (pushed xs x)

module _ (in_order : SheetsComeInOrder) (equal_keys : SameKeysAreEqual) (election : Election) (key : Key) (sheet : SheetMarks) where
  -- an event that adds nothing under the key
  still-none : (kept : List Event) (event : Event) → ((n : ℕ) → added_by n event ≡ []) → (b : Bool) → place_in kept key ≡ None
      → place_in (kept ++ cond b (event ∷ []) []) key ≡ None
  still-none kept event none true new =
      ap (position_from (has_key key) 0)
      (in_order 0 kept (event ∷ [])
      ∙ ap (λ (some : List Added). sheets_in kept ++ some) (append-nil (added_by (0 + length kept) event) ∙ none (0 + length kept))
      ∙ append-nil (sheets_in kept))
      ∙ new
  still-none kept event none false new = ap (λ (some : List Event). place_in some key) (append-nil kept) ∙ new

  other-key : (kept : List Event) (other : Key) (one : SheetMarks) → same_key key other ≡ false → (b : Bool) → place_in kept key ≡ None
      → place_in (kept ++ cond b (Add other one ∷ []) []) key ≡ None
  other-key kept other one not true new =
      ap (position_from (has_key key) 0) (in_order 0 kept (Add other one ∷ []))
      ∙ none-pushed (has_key key) 0 (sheets_in kept) (record { at = 0 + length kept; key = other; sheet = one }) new not
  other-key kept other one not false new = ap (λ (some : List Event). place_in some key) (append-nil kept) ∙ new

  -- an Add of a new key is done
  add-done : (kept : List Event) → place_in kept key ≡ None → length kept < event_limit → reply_of election kept (Add key sheet) ≡ Done
  add-done kept new room =
      ap (λ (b : Bool). cond b (add_reply (place_in kept key)) (Full event_limit)) (below-yes (length kept) event_limit room)
      ∙ ap add_reply new

  shorter : (kept : List Event) (call : Entry) (more : ℕ) → length kept + suc more ≤ event_limit → length (kept ++ done_of call) + more ≤ event_limit
  shorter kept call more room = by (is_done call.reply)
    where
      by : (b : Bool) → length (kept ++ cond b (call.event ∷ []) []) + more ≤ event_limit
      by true = let size = pushed kept call.event in omega (arith, room, size)
      by false = let size : length (kept ++ []) ≡ length kept = ap length (append-nil kept) in omega (arith, room, size)

  -- the first call adds it
  it-is : (call : Entry) (calls : List Entry) (kept : List Event) → call.reply ≡ reply_of election kept call.event → place_in kept key ≡ None
      → length kept + suc (length calls) ≤ event_limit
      → call.event ≡ Add key sheet → IsDoneIn (call ∷ calls) (Add key sheet)
  it-is call calls kept legal new room same =
      let done : call.reply ≡ Done = legal ∙ ap (reply_of election kept) same ∙ add-done kept new (omega (arith, room)) in
      let given : done_of call ≡ Add key sheet ∷ [] =
      ap (λ (reply : Reply). cond (is_done reply) (call.event ∷ []) []) done ∙ ap (λ (event : Event). event ∷ []) same in
      record { front = []; back = done_events calls; are = ap (λ (some : List Event). some ++ done_events calls) given }

  -- it adds it, or nothing under the key
  it-or-other : (call : Entry) → ((other : SheetMarks) → call.event ≡ Add key other → other ≡ sheet) → (kept : List Event) → place_in kept key ≡ None
      → (call.event ≡ Add key sheet) ⊎ (place_in (kept ++ done_of call) key ≡ None)
  it-or-other call only kept new = by call.event refl
    where
      none : (event : Event) → call.event ≡ event → place_in (kept ++ cond (is_done call.reply) (event ∷ []) []) key ≡ None
          → place_in (kept ++ done_of call) key ≡ None
      none event same h = ap (λ (some : Event). place_in (kept ++ cond (is_done call.reply) (some ∷ []) []) key) same ∙ h

      by : (event : Event) → call.event ≡ event → (call.event ≡ Add key sheet) ⊎ (place_in (kept ++ done_of call) key ≡ None)
      by (Add other one) same = keyed (same_key key other) refl
        where
          keyed : (b : Bool) → same_key key other ≡ b → (call.event ≡ Add key sheet) ⊎ (place_in (kept ++ done_of call) key ≡ None)
          keyed true is =
              let own : call.event ≡ Add key one = same ∙ ap (λ (some : Key). Add some one) (sym (equal_keys key other is)) in
              inl (own ∙ ap (Add key) (only one own))
          keyed false not = inr (none (Add other one) same (other-key kept other one not (is_done call.reply) new))
      by (Claim station other) same = inr (none (Claim station other) same (still-none kept (Claim station other) (λ n. refl) (is_done call.reply) new))
      by (Release station other) same = inr (none (Release station other) same (still-none kept (Release station other) (λ n. refl) (is_done call.reply) new))
      by (Decide station other contest decision) same =
          inr (none (Decide station other contest decision) same
          (still-none kept (Decide station other contest decision) (λ n. refl) (is_done call.reply) new))

  first-done : (calls : List Entry) (kept : List Event) → LegalFrom election kept calls → place_in kept key ≡ None
      → length kept + length calls ≤ event_limit → AddOnly calls key sheet
      → (n : ℕ) (one : Entry) → slice_get calls n ≡ Some one → one.event ≡ Add key sheet → IsDoneIn calls (Add key sheet)
  first-done [] kept legal new room only n one at is = absurd cc
  first-done (call ∷ calls) kept legal new room only zero one at is =
      it-is call calls kept legal.0 new room (ap (λ (some : Entry). some.event) (same_Some call one at) ∙ is)
  first-done (call ∷ calls) kept legal new room only (suc n) one at is =
      by (it-or-other call (λ other same. only 0 call other refl same) kept new)
      (λ later. first-done calls (kept ++ done_of call) legal.1 later (shorter kept call (length calls) room)
      (λ m some other there same. only (suc m) some other there same) n one at is)
    where
      by : (call.event ≡ Add key sheet) ⊎ (place_in (kept ++ done_of call) key ≡ None)
          → (place_in (kept ++ done_of call) key ≡ None → IsDoneIn calls (Add key sheet))
          → IsDoneIn (call ∷ calls) (Add key sheet)
      by (inl same) go = it-is call calls kept legal.0 new room same
      by (inr later) go = behind call calls (Add key sheet) (go later)

pub first-adds : SheetsComeInOrder → SameKeysAreEqual → FirstAddsAreDone
first-adds in_order equal_keys start history key sheet place call legal new room only at is =
    first-done in_order equal_keys start.election key sheet history start.events
    (legal-from start.election history start.events legal.replies) new room only place call at is
