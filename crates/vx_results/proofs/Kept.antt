-- What the kept events of a history are: the sheets and the decisions that fit, and what is exported of them.
use Rattle.std.proofs.Common.{◌≡◌, ℕ, suc, ◌+◌, ◌<◌, ◌≤◌, Bool, true, false, cond, ◌==◌, List, [], ◌∷◌, length, take, refl, sym, ap, ◌∙◌, arith}
use Rattle.std.specs.Prelude.{⊤, Option, Some, None, find, nat_lt, nat_le, slice_get}
use Rattle.std.specs.List.{AllByRecursion, list_all, range_with_len}
use Rattle.std.proofs.lemmas.Option.{same_Some}
use Rattle.vx_base.proofs.Booleans.{and-left, and-right, chosen-none}
use Rattle.vx_base.proofs.Numbers.{equal-from_yes, below-from_yes, at_most-from_yes}
use Rattle.vx_grid.specs.declared.state.State.{State}
use Rattle.vx_election_model.specs.declared.contest.Contest.{Contest}
use Rattle.vx_election_model.specs.declared.election.Election.{Election}
use Rattle.vx_election_model.specs.Options.{options_of}
use Rattle.vx_rules.specs.declared.marks.ContestMarks.{ContestMarks}
use Rattle.vx_rules.specs.declared.marks.SheetMarks.{SheetMarks}
use Rattle.vx_rules.specs.Reasons.{is_marked, is_blank_sheet}
use Rattle.vx_refusals.specs.declared.reply.Reply.{Reply}
use Rattle.vx_refusals.specs.declared.reply.Reply.TheVariants.{Done, HeldBy, NotAnOption, OverSeats, NoWriteIn, Full}
use Rattle.vx_events.specs.declared.decision.Decision.{Decision}
use Rattle.vx_events.specs.declared.decision.Decision.TheVariants.{Selections, RuledOvervote, AcceptRead, NameWriteIn}
use Rattle.vx_events.specs.declared.decision.WriteInName.{WriteInName}
use Rattle.vx_events.specs.declared.decision.WriteInName.TheVariants.{Words, Candidate}
use Rattle.vx_events.specs.declared.event.Event.{Event}
use Rattle.vx_events.specs.declared.event.Event.TheVariants.{Add, Claim, Release, Decide}
use Rattle.vx_events.specs.declared.key.Key.{Key}
use Rattle.vx_events.specs.Fits.{Fits, is_key, is_read, has_options, is_sheet}
use Rattle.vx_center.specs.declared.decided.Decided.{Decided}
use Rattle.vx_center.specs.declared.rows.Final.{Final}
use Rattle.vx_center.specs.Decisions.{decided_by, decided_of, of_contest, decisions_on, decisions_of, ruling_after, ruling_of, name_after, name_of}
use Rattle.vx_center.specs.Exports.{final_of, final_in, final_if_exported, finals_by, row_of}
use Rattle.vx_center.specs.Finals.{options_from, marked_options, selected_by, slots_of}
use Rattle.vx_center.specs.Histories.{IsHistory}
use Rattle.vx_center.specs.Replies.{event_limit, on_sheet, if_held, selections_reply, unless_marginal, name_reply, has_slot, slot_reply, naming_reply, decision_reply, on_contest, reply_of}
use Rattle.vx_center.specs.Sheets.{Added, same_key, added_by, added_from, sheets_in, sheet_in, marks_on}
use Rattle.vx_center.specs.Waiting.{exports_by}
use Rattle.vx_results.specs.Fitting.{AreOptions, IsNameIn, IsSlotOf}
use Rattle.vx_results.proofs.Each.{each-at, each-test, each-weaker, each-append, each-map, each-flat_map, each-any, fold-keeps}

-- a decision that a contest admits
abbrev pub IsDecisionOf : Contest → Decision → Type 0
IsDecisionOf contest (Selections options) = AreOptions contest options
IsDecisionOf contest RuledOvervote = ⊤
IsDecisionOf contest AcceptRead = ⊤
IsDecisionOf contest (NameWriteIn slot name) = IsNameIn contest name

-- a decision that was taken
abbrev IsTaken : Election → ℕ → Decision → Type 0
IsTaken election number decision = (contest : Contest) → slice_get election.contests number ≡ Some contest → IsDecisionOf contest decision

not-past : (n : ℕ) (options : List ℕ) → find (nat_le n) options ≡ None → AllByRecursion (λ (option : ℕ). option < n) options
not-past n [] none = tt
not-past n (option ∷ options) none =
    let parts = chosen-none (nat_le n option) option (find (nat_le n) options) none in
    (below n option parts.0, not-past n options parts.1)
  where
    below : (n option : ℕ) → nat_le n option ≡ false → option < n
    below n option h = grind (arith, h)

selections-are : (contest : Contest) (options : List ℕ) (found : Option ℕ) → find (nat_le (options_of contest)) options ≡ found
    → selections_reply contest options found ≡ Done → AreOptions contest options
selections-are contest options (Some other) found h = absurd cc
selections-are contest options None found h = by (nat_le (length options) contest.seats) refl
  where
    by : (b : Bool) → nat_le (length options) contest.seats ≡ b → AreOptions contest options
    by true e = record { few = omega (arith, at_most-from_yes (length options) contest.seats e); each = not-past (options_of contest) options found }
    by false e =
        let no : OverSeats (length options) contest.seats ≡ Done = sym (ap (λ (b : Bool). cond b Done (OverSeats (length options) contest.seats)) e) ∙ h in
        absurd cc

unless-done : (o : Option ℕ) (reply : Reply) → unless_marginal o reply ≡ Done → reply ≡ Done
unless-done None reply h = h
unless-done (Some option) reply h = absurd cc

name-is : (contest : Contest) (name : WriteInName) → name_reply contest name ≡ Done → IsNameIn contest name
name-is contest (Words words) h = tt
name-is contest (Candidate number) h = by (nat_lt number (length contest.choices)) refl
  where
    by : (b : Bool) → nat_lt number (length contest.choices) ≡ b → number < length contest.choices
    by true e = below-from_yes number (length contest.choices) e
    by false e = let no : NotAnOption number ≡ Done = sym (ap (λ (b : Bool). cond b Done (NotAnOption number)) e) ∙ h in absurd cc

slot-is : (contest : Contest) (selected : List ℕ) (slot : ℕ) (name : WriteInName) → slot_reply contest selected slot name ≡ Done → IsNameIn contest name
slot-is contest selected slot name h = by (has_slot contest selected slot) h
  where
    by : (b : Bool) → cond b (name_reply contest name) (NoWriteIn slot) ≡ Done → IsNameIn contest name
    by true h = name-is contest name h
    by false h = absurd cc

naming-is : (contest : Contest) (states : List State) (ruling : Option Decision) (slot : ℕ) (name : WriteInName)
    → naming_reply contest states ruling slot name ≡ Done → IsNameIn contest name
naming-is contest states None slot name h = slot-is contest (selected_by states None) slot name (unless-done _ _ h)
naming-is contest states (Some ruling) slot name h = slot-is contest (selected_by states (Some ruling)) slot name h

decision-is : (contest : Contest) (states : List State) (ruling : Option Decision) (decision : Decision) → decision_reply contest states ruling decision ≡ Done
    → IsDecisionOf contest decision
decision-is contest states ruling (Selections options) h = selections-are contest options (find (nat_le (options_of contest)) options) refl h
decision-is contest states ruling RuledOvervote h = tt
decision-is contest states ruling AcceptRead h = tt
decision-is contest states ruling (NameWriteIn slot name) h = naming-is contest states ruling slot name h

sheet-done : (sheet : Option SheetMarks) (reply : SheetMarks → Reply) → on_sheet sheet reply ≡ Done → (one : SheetMarks) × (reply one ≡ Done)
sheet-done None reply h = absurd cc
sheet-done (Some one) reply h = (one, h)

held-done : (station : ℕ) (holder : Option ℕ) (reply : Reply) → if_held station holder reply ≡ Done → reply ≡ Done
held-done station None reply h = absurd cc
held-done station (Some holder) reply h = by (holder == station) h
  where
    by : (b : Bool) → cond b reply (HeldBy holder) ≡ Done → reply ≡ Done
    by true h = h
    by false h = absurd cc

contest-done : (number : ℕ) (contest : Contest) (o : Option Contest) (marks : Option ContestMarks) (reply : Contest → ContestMarks → Reply) → o ≡ Some contest
    → on_contest number o marks reply ≡ Done → (one : ContestMarks) × (reply contest one ≡ Done)
contest-done number contest None marks reply there h = absurd cc
contest-done number contest (Some other) None reply there h = absurd cc
contest-done number contest (Some other) (Some one) reply there h =
    (one, ap (λ (c : Contest). reply c one) (sym (same_Some other contest there)) ∙ h)

with-room : (kept : List Event) (reply : Reply) → cond (nat_lt (length kept) event_limit) reply (Full event_limit) ≡ Done → reply ≡ Done
with-room kept reply h = by (nat_lt (length kept) event_limit) h
  where
    by : (b : Bool) → cond b reply (Full event_limit) ≡ Done → reply ≡ Done
    by true h = h
    by false h = absurd cc

decide-taken : (election : Election) (kept : List Event) (station : ℕ) (key : Key) (number : ℕ) (decision : Decision)
    → reply_of election kept (Decide station key number decision) ≡ Done → IsTaken election number decision
decide-taken election kept station key number decision done contest there =
    let on = sheet-done (sheet_in kept key) _ (with-room kept _ done) in
    let marked = contest-done number contest (slice_get election.contests number) (marks_on on.0 number) _ there (held-done station _ _ on.1) in
    decision-is contest marked.0.states (ruling_of (decisions_of kept key number)) decision marked.1

-- what is decided of a sheet was taken
abbrev AreTaken : Election → List Decided → Type 0
AreTaken election decided = AllByRecursion (λ (one : Decided). IsTaken election one.contest one.decision) decided

decided-taken : (election : Election) (kept : List Event) (key : Key) → IsHistory election kept → AreTaken election (decided_of kept key)
decided-taken election kept key history =
    each-flat_map P (decided_by key) kept (each-at (λ (event : Event). AllByRecursion P (decided_by key event)) kept
    (λ place event there. by event (take place kept) (history.done place event there)))
  where
    P : Decided → Type 0
    P one = IsTaken election one.contest one.decision

    if-same : (b : Bool) (one : Decided) → P one → AllByRecursion P (cond b (one ∷ []) [])
    if-same true one is = (is, tt)
    if-same false one is = tt

    by : (event : Event) (before : List Event) → reply_of election before event ≡ Done → AllByRecursion P (decided_by key event)
    by (Add other sheet) before done = tt
    by (Claim station other) before done = tt
    by (Release station other) before done = tt
    by (Decide station other contest decision) before done =
        if-same (same_key key other) (record { contest = contest; decision = decision }) (decide-taken election before station other contest decision done)

-- the decisions of a contest are some that it admits
decisions-are : (election : Election) (number : ℕ) (contest : Contest) (decided : List Decided) → slice_get election.contests number ≡ Some contest
    → AreTaken election decided → AllByRecursion (IsDecisionOf contest) (decisions_on number decided)
decisions-are election number contest decided there taken =
    each-flat_map (IsDecisionOf contest) (of_contest number) decided
    (each-weaker (λ (one : Decided). IsTaken election one.contest one.decision)
    (λ (one : Decided). AllByRecursion (IsDecisionOf contest) (of_contest number one)) decided
    (λ one is. by one is (one.contest == number) refl) taken)
  where
    by : (one : Decided) → IsTaken election one.contest one.decision → (b : Bool) → (one.contest == number) ≡ b
        → AllByRecursion (IsDecisionOf contest) (cond b (one.decision ∷ []) [])
    by one is true e = (is contest (ap (slice_get election.contests) (equal-from_yes one.contest number e) ∙ there), tt)
    by one is false e = tt

-- the last ruling is one of them
abbrev IsRulingOf : Contest → Option Decision → Type 0
IsRulingOf contest None = ⊤
IsRulingOf contest (Some decision) = IsDecisionOf contest decision

ruling-is : (contest : Contest) (decisions : List Decision) → AllByRecursion (IsDecisionOf contest) decisions → IsRulingOf contest (ruling_of decisions)
ruling-is contest decisions are = fold-keeps (IsRulingOf contest) (IsDecisionOf contest) ruling_after decisions None step tt are
  where
    step : (before : Option Decision) (decision : Decision) → IsRulingOf contest before → IsDecisionOf contest decision
        → IsRulingOf contest (ruling_after before decision)
    step before (Selections options) was is = is
    step before RuledOvervote was is = tt
    step before AcceptRead was is = tt
    step before (NameWriteIn slot name) was is = was

slot-named : (contest : Contest) (slot : ℕ) (decisions : List Decision) → AllByRecursion (IsDecisionOf contest) decisions
    → IsSlotOf contest (name_of slot decisions)
slot-named contest slot decisions are = fold-keeps (IsSlotOf contest) (IsDecisionOf contest) (name_after slot) decisions None step tt are
  where
    if-that : (b : Bool) (before : Option WriteInName) (name : WriteInName) → IsSlotOf contest before → IsNameIn contest name
        → IsSlotOf contest (cond b (Some name) before)
    if-that true before name was is = is
    if-that false before name was is = was

    step : (before : Option WriteInName) (decision : Decision) → IsSlotOf contest before → IsDecisionOf contest decision
        → IsSlotOf contest (name_after slot before decision)
    step before (Selections options) was is = was
    step before RuledOvervote was is = was
    step before AcceptRead was is = was
    step before (NameWriteIn other name) was is = if-that (other == slot) before name was is

-- options that pass are below the number of states
passing-below : (passes : State → Bool) (number : ℕ) (states : List State) (most : ℕ) → number + length states ≤ most
    → (AllByRecursion (λ (option : ℕ). option < most) (options_from passes number states)) × (length (options_from passes number states) ≤ length states)
passing-below passes number [] most room = (tt, omega arith)
passing-below passes number (state ∷ states) most room = by (passes state) (passing-below passes (number + 1) states most (omega (arith, room)))
  where
    by : (b : Bool) → (AllByRecursion (λ (option : ℕ). option < most) (options_from passes (number + 1) states)) ×
        (length (options_from passes (number + 1) states) ≤ length states)
        → (AllByRecursion (λ (option : ℕ). option < most)
        (cond b (number ∷ options_from passes (number + 1) states) (options_from passes (number + 1) states)))
        × (length (cond b (number ∷ options_from passes (number + 1) states) (options_from passes (number + 1) states)) ≤ suc (length states))
    by true rest = ((omega (arith, room), rest.0), omega (arith, rest.1))
    by false rest = (rest.0, omega (arith, rest.1))

marked-are : (contest : Contest) (states : List State) → length states ≡ options_of contest → AreOptions contest (marked_options states)
marked-are contest states same =
    let below = passing-below is_marked 0 states (options_of contest) (omega (arith, same)) in
    record { few = omega (arith, same, below.1); each = below.0 }

selected-are : (contest : Contest) (states : List State) (ruling : Option Decision) → length states ≡ options_of contest → IsRulingOf contest ruling
    → AreOptions contest (selected_by states ruling)
selected-are contest states None same is = marked-are contest states same
selected-are contest states (Some (Selections options)) same is = is
selected-are contest states (Some RuledOvervote) same is = marked-are contest states same
selected-are contest states (Some AcceptRead) same is = marked-are contest states same
selected-are contest states (Some (NameWriteIn slot name)) same is = marked-are contest states same

-- an exported contest: the election has it, and what is selected and named of it is there
pub record IsFinal (election : Election) (final : Final) : Type 0 where
  pub contest : Contest
  pub there : slice_get election.contests final.contest ≡ Some contest
  pub options : AreOptions contest final.selected
  pub names : AllByRecursion (IsSlotOf contest) final.names

final-is : (election : Election) (marks : ContestMarks) (decided : List Decided) (contest : Contest) → is_read election marks ≡ true
    → AreTaken election decided
    → slice_get election.contests marks.contest ≡ Some contest → IsFinal election (final_of contest marks (decisions_on marks.contest decided))
final-is election marks decided contest read taken there =
    let decisions = decisions_on marks.contest decided in
    let are = decisions-are election marks.contest contest decided there taken in
    let as_many : (options_of contest == length marks.states) ≡ true = sym (ap (λ (o : Option Contest). has_options o (length marks.states)) there) ∙ read in
    record {
      contest = contest;
      there = there;
      options = selected-are contest marks.states (ruling_of decisions) (sym (equal-from_yes (options_of contest) (length marks.states) as_many))
          (ruling-is contest decisions are);
      names = each-map (IsSlotOf contest) (λ slot. name_of slot decisions) (range_with_len 0 (slots_of contest))
          (each-any (λ (slot : ℕ). IsSlotOf contest (name_of slot decisions)) (range_with_len 0 (slots_of contest))
          (λ slot. slot-named contest slot decisions are));
    }

finals-are : (election : Election) (sheet : SheetMarks) (decided : List Decided) → list_all (is_read election) sheet.contests ≡ true
    → AreTaken election decided
    → AllByRecursion (IsFinal election) (finals_by election sheet decided)
finals-are election sheet decided read taken =
    each-flat_map (IsFinal election) (final_if_exported election (is_blank_sheet sheet) decided) sheet.contests
    (each-weaker (λ (marks : ContestMarks). is_read election marks ≡ true) _ sheet.contests
    (λ marks is. by marks is (exports_by election (is_blank_sheet sheet) decided marks)) (each-test (is_read election) sheet.contests read))
  where
    inside : (marks : ContestMarks) → is_read election marks ≡ true → (o : Option Contest) → slice_get election.contests marks.contest ≡ o
        → AllByRecursion (IsFinal election) (final_in marks (decisions_on marks.contest decided) o)
    inside marks is None there = tt
    inside marks is (Some contest) there = (final-is election marks decided contest is taken there, tt)

    by : (marks : ContestMarks) → is_read election marks ≡ true → (b : Bool)
        → AllByRecursion (IsFinal election) (cond b (final_in marks (decisions_on marks.contest decided) (slice_get election.contests marks.contest)) [])
    by marks is true = inside marks is (slice_get election.contests marks.contest) refl
    by marks is false = tt

-- a sheet that was added fits
abbrev pub IsAdded : Election → Added → Type 0
IsAdded election added = (is_key added.key ≡ true) × (is_sheet election added.sheet ≡ true)

added-are : (election : Election) (place : ℕ) (events : List Event) → AllByRecursion (Fits election) events
    → AllByRecursion (IsAdded election) (added_from place events)
added-are election place [] fit = tt
added-are election place (event ∷ events) fit = each-append (IsAdded election) (added_by place event) (added_from (place + 1) events) (by event fit.0)
    (added-are election (place + 1) events fit.1)
  where
    by : (event : Event) → Fits election event → AllByRecursion (IsAdded election) (added_by place event)
    by (Add key sheet) fits = ((and-left (is_key key) (is_sheet election sheet) fits, and-right (is_key key) (is_sheet election sheet) fits), tt)
    by (Claim station key) fits = tt
    by (Release station key) fits = tt
    by (Decide station key contest decision) fits = tt

pub sheets-are : (election : Election) (kept : List Event) → IsHistory election kept → AllByRecursion (IsAdded election) (sheets_in kept)
sheets-are election kept history = added-are election 0 kept (each-at (Fits election) kept history.fits)

sheet-read : (election : Election) (sheet : SheetMarks) → is_sheet election sheet ≡ true → list_all (is_read election) sheet.contests ≡ true
sheet-read election sheet h = and-right _ (list_all (is_read election) sheet.contests) h

-- what is exported of a sheet
pub row-finals : (election : Election) (kept : List Event) (added : Added) → IsHistory election kept → IsAdded election added
    → AllByRecursion (IsFinal election) (row_of election kept added).finals
row-finals election kept added history is =
    finals-are election added.sheet (decided_of kept added.key) (sheet-read election added.sheet is.1) (decided-taken election kept added.key history)
