-- The sheets of a history: each is found by its key, and its contests by their numbers.
use Rattle.std.proofs.Common.{◌≡◌, ℕ, zero, suc, ◌+◌, ◌%◌, ◌<◌, ◌≤◌, ◌⊎◌, inl, inr, Bool, true, cond, List, [], ◌∷◌, ◌++◌, length, refl, sym, ap, ◌∙◌, subst, arith, append-nil}
use Rattle.std.specs.Prelude.{◌&&◌, ◌==◌, Option, Some, None, find, nat_le, nat_lt, slice_get}
use Rattle.std.specs.List.{list_all}
use Rattle.std.proofs.lemmas.Option.{same_Some}
use Rattle.vx_base.proofs.Booleans.{and-left, and-right}
use Rattle.vx_base.proofs.Lists.{at-push, find-front}
use Rattle.vx_base.proofs.Numbers.{at_most-from_yes, equal-no, equal-yes}
use Rattle.vx_election_model.specs.declared.election.Election.{Election}
use Rattle.vx_election_model.specs.Lists.{card_count}
use Rattle.vx_rules.specs.declared.marks.ContestMarks.{ContestMarks}
use Rattle.vx_rules.specs.declared.marks.SheetMarks.{SheetMarks}
use Rattle.vx_events.specs.Ascending.{ascends_from, is_ascending}
use Rattle.vx_events.specs.declared.event.Event.{Event}
use Rattle.vx_events.specs.declared.event.Event.TheVariants.{Add, Claim, Release, Decide}
use Rattle.vx_events.specs.declared.key.Key.{Key}
use Rattle.vx_events.specs.Fits.{Fits, contests_of, is_key, is_read, is_sheet}
use Rattle.vx_refusals.specs.declared.reply.Reply.TheVariants.{Done}
use Rattle.vx_center.specs.Histories.{IsHistory}
use Rattle.vx_center.specs.Laws.{SheetsHaveOwnKeys}
use Rattle.vx_center.specs.Replies.{add_reply, reply_of}
use Rattle.vx_center.specs.Sheets.{Added, added_by, added_from, has_key, marks_on, place_in, sheet_in, sheet_of, sheets_in}
use Rattle.vx_center.proofs.Adding.{added-append, sheets-push}
use Rattle.vx_center.proofs.Following.{with-room}
use Rattle.vx_center.proofs.Histories.{over-history}
use Rattle.vx_center.proofs.Keys.{same-self}
use Rattle.vx_center.proofs.Places.{find-behind, none-found}

-- a sheet that was added is found whatever comes behind
pub sheet-stays : (front back : List Event) (key : Key) (sheet : SheetMarks) → sheet_in front key ≡ Some sheet → sheet_in (front ++ back) key ≡ Some sheet
sheet-stays front back key sheet h = by (find (has_key key) (sheets_in front)) refl h
  where
    by : (found : Option Added) → find (has_key key) (sheets_in front) ≡ found → sheet_of found ≡ Some sheet → sheet_in (front ++ back) key ≡ Some sheet
    by None e h = absurd cc
    by (Some added) e h =
        ap (λ (sheets : List Added). sheet_of (find (has_key key) sheets)) (added-append 0 front back)
        ∙ ap sheet_of (find-front (has_key key) (sheets_in front) (added_from (0 + length front) back) added e)
        ∙ h

module _ (election : Election) where
  -- each sheet is the one that is found by its key, and fits
  pub record IsOwn (sheets : List Added) (added : Added) : Type 0 where
    pub found : find (has_key added.key) sheets ≡ Some added
    pub fits : is_sheet election added.sheet ≡ true

  pub record AreOwn (sheets : List Added) : Type 0 where
    pub each : (place : ℕ) (added : Added) → slice_get sheets place ≡ Some added → IsOwn sheets added

  none-own : AreOwn []
  none-own = record { each = λ place added there. absurd cc }

  one-own : (sheets : List Added) (new : Added) → AreOwn sheets → find (has_key new.key) sheets ≡ None → is_sheet election new.sheet ≡ true → AreOwn (sheets ++ new ∷ [])
  one-own sheets new own missing fits = record { each = λ place added there. by place added (at-push sheets new place added there) }
    where
      last : IsOwn (sheets ++ new ∷ []) new
      last = record {
        found = find-behind (has_key new.key) sheets (new ∷ []) missing ∙ ap (λ (b : Bool). cond b (Some new) None) (same-self new.key);
        fits = fits;
      }

      by : (place : ℕ) (added : Added) → ((place < length sheets) × (slice_get sheets place ≡ Some added)) ⊎ ((place ≡ length sheets) × (new ≡ added)) → IsOwn (sheets ++ new ∷ []) added
      by place added (inl there) =
          let before = own.each place added there.1 in
          record { found = find-front (has_key added.key) sheets (new ∷ []) added before.found; fits = before.fits }
      by place added (inr same) = let Own : Added → Type 0 = λ one. IsOwn (sheets ++ new ∷ []) one in subst Own same.1 last

  -- an event that adds nothing
  still-own : (kept : List Event) (event : Event) → added_by (length kept) event ≡ [] → AreOwn (sheets_in kept) → AreOwn (sheets_in (kept ++ event ∷ []))
  still-own kept event none own =
      subst AreOwn
      (sym (sheets-push kept event ∙ ap (λ (more : List Added). sheets_in kept ++ more) none ∙ append-nil (sheets_in kept)))
      own

  no-place : (place : Option ℕ) → add_reply place ≡ Done → place ≡ None
  no-place None h = refl
  no-place (Some place) h = absurd cc

  more-own : (kept : List Event) (event : Event) → AreOwn (sheets_in kept) → Fits election event → reply_of election kept event ≡ Done → AreOwn (sheets_in (kept ++ event ∷ []))
  more-own kept (Add key sheet) own fits done =
      let new : Added = record { at = length kept; key = key; sheet = sheet } in
      subst AreOwn (sym (sheets-push kept (Add key sheet)))
      (one-own (sheets_in kept) new own
      (none-found (has_key key) 0 (sheets_in kept) (no-place (place_in kept key) (with-room election kept (Add key sheet) done)))
      (and-right (is_key key) (is_sheet election sheet) fits))
  more-own kept (Claim station key) own fits done = still-own kept (Claim station key) refl own
  more-own kept (Release station key) own fits done = still-own kept (Release station key) refl own
  more-own kept (Decide station key contest decision) own fits done = still-own kept (Decide station key contest decision) refl own

  pub own-sheets : (kept : List Event) → IsHistory election kept → AreOwn (sheets_in kept)
  own-sheets kept history = over-history election (λ (events : List Event). AreOwn (sheets_in events)) more-own kept none-own history

-- two of one key are one
pub own-keys : SheetsHaveOwnKeys
own-keys election kept place further one other history here there same =
    let own = own-sheets election kept history in
    same_Some one other
    (sym (own.each place one here).found
    ∙ ap (λ (key : Key). find (has_key key) (sheets_in kept)) same
    ∙ (own.each further other there).found)

-- contests that ascend are found by their numbers
above : (least : ℕ) (contests : List ContestMarks) → ascends_from least (contests_of contests) ≡ true → (place : ℕ) (marks : ContestMarks) → slice_get contests place ≡ Some marks → least ≤ marks.contest
above least [] ascends place marks there = absurd cc
above least (first ∷ contests) ascends zero marks there =
    let Low : ContestMarks → Type 0 = λ one. least ≤ one.contest in
    subst Low (same_Some first marks there)
    (at_most-from_yes least first.contest (and-left (nat_le least first.contest) (ascends_from (first.contest + 1) (contests_of contests)) ascends))
above least (first ∷ contests) ascends (suc place) marks there =
    let low = at_most-from_yes least first.contest (and-left (nat_le least first.contest) (ascends_from (first.contest + 1) (contests_of contests)) ascends) in
    let high = above (first.contest + 1) contests (and-right (nat_le least first.contest) (ascends_from (first.contest + 1) (contests_of contests)) ascends) place marks there in
    omega (arith, low, high)

found-by : (least : ℕ) (contests : List ContestMarks) → ascends_from least (contests_of contests) ≡ true → (place : ℕ) (marks : ContestMarks) → slice_get contests place ≡ Some marks → find (λ (one : ContestMarks). one.contest == marks.contest) contests ≡ Some marks
found-by least [] ascends place marks there = absurd cc
found-by least (first ∷ contests) ascends zero marks there =
    let Found : ContestMarks → Type 0 = λ one. find (λ (other : ContestMarks). other.contest == one.contest) (first ∷ contests) ≡ Some one in
    subst Found (same_Some first marks there)
    (ap (λ (b : Bool). cond b (Some first) (find (λ (other : ContestMarks). other.contest == first.contest) contests)) (equal-yes first.contest first.contest refl))
found-by least (first ∷ contests) ascends (suc place) marks there =
    let further = and-right (nat_le least first.contest) (ascends_from (first.contest + 1) (contests_of contests)) ascends in
    let high = above (first.contest + 1) contests further place marks there in
    ap (λ (b : Bool). cond b (Some first) (find (λ (other : ContestMarks). other.contest == marks.contest) contests))
    (equal-no first.contest marks.contest (λ same. omega (arith, same, high)))
    ∙ found-by (first.contest + 1) contests further place marks there

-- a contest of a sheet that fits is found by its number
pub contest-found : (election : Election) (sheet : SheetMarks) → is_sheet election sheet ≡ true → (place : ℕ) (marks : ContestMarks) → slice_get sheet.contests place ≡ Some marks → marks_on sheet marks.contest ≡ Some marks
contest-found election sheet fits place marks there =
    found-by 0 sheet.contests (ascending election sheet fits) place marks there
  where
    ascending : (election : Election) (sheet : SheetMarks) → is_sheet election sheet ≡ true → is_ascending (contests_of sheet.contests) ≡ true
    ascending election sheet fits =
        let card = nat_lt sheet.card (card_count election.styles) in
        let front = (sheet.front % 2) == 1 in
        let low = nat_lt sheet.front 64 in
        let ascends = is_ascending (contests_of sheet.contests) in
        and-right (card && front && low) ascends (and-left (card && front && low && ascends) (list_all (is_read election) sheet.contests) fits)
