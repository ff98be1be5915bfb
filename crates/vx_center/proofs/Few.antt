-- How many there are at most: options, contests, events.
use Rattle.std.proofs.Common.{◌≡◌, ℕ, suc, ◌+◌, ◌-◌, ◌%◌, ◌<◌, ◌≤◌, ◌⊎◌, inl, inr, Bool, true, false, cond, ◌==◌, List, [], ◌∷◌, length, take, refl, sym, ap, ◌∙◌, arith, length-take}
use Rattle.std.specs.Prelude.{◌&&◌, Option, Some, None, nat_lt, nat_le, slice_get, find}
use Rattle.std.specs.List.{list_all}
use Rattle.std.proofs.lemmas.Option.{same_Some, slice_get_within}
use Rattle.std.proofs.lemmas.Bool.Decides.{nat_tests}
use Rattle.vx_base.proofs.Booleans.{and-left, and-right, chosen-none}
use Rattle.vx_base.proofs.Numbers.{equal-from_yes, below-from_yes, at_most-from_yes}
use Rattle.vx_election_model.specs.declared.contest.Contest.{Contest}
use Rattle.vx_election_model.specs.declared.election.Election.{Election}
use Rattle.vx_election_model.specs.Lists.{card_count}
use Rattle.vx_election_model.specs.Options.{options_of}
use Rattle.vx_election_model.specs.Valid.{IsValid}
use Rattle.vx_rules.specs.declared.marks.ContestMarks.{ContestMarks}
use Rattle.vx_rules.specs.declared.marks.SheetMarks.{SheetMarks}
use Rattle.vx_events.specs.declared.event.Event.{Event}
use Rattle.vx_refusals.specs.declared.reply.Reply.TheVariants.{Done, Full}
use Rattle.vx_events.specs.Ascending.{ascends_from, is_ascending}
use Rattle.vx_events.specs.Fits.{has_options, is_read, contests_of, is_sheet}
use Rattle.vx_center.specs.Replies.{reply_of, reply_with_room, event_limit}
use Rattle.vx_center.specs.Sheets.{marks_on}
use Rattle.vx_center.specs.Histories.{IsHistory}

-- numbers that ascend from one on and stay below another
ascending-room : (least n : ℕ) (numbers : List ℕ) → ascends_from least numbers ≡ true → find (nat_le n) numbers ≡ None → least ≤ n → least + length numbers ≤ n
ascending-room least n [] up none room = omega arith
ascending-room least n (number ∷ numbers) up none room =
    let parts = chosen-none (nat_le n number) number (find (nat_le n) numbers) none in
    let low : least ≤ number = at_most-from_yes least number (and-left _ _ up) in
    let below : number < n = grind (arith, nat_tests, parts.0) in
    let rest = ascending-room (number + 1) n numbers (and-right (nat_le least number) _ up) parts.1 (omega arith) in
    omega arith

pub ascending-few : (n : ℕ) (numbers : List ℕ) → is_ascending numbers ≡ true → find (nat_le n) numbers ≡ None → length numbers ≤ n
ascending-few n numbers up none = let room = ascending-room 0 n numbers up none (omega arith) in omega arith

contest-below : (election : Election) (marks : ContestMarks) → is_read election marks ≡ true → marks.contest < length election.contests
contest-below election marks read = by (slice_get election.contests marks.contest) refl
  where
    by : (o : Option Contest) → slice_get election.contests marks.contest ≡ o → marks.contest < length election.contests
    by None e = let no = sym (ap (λ (o : Option Contest). has_options o (length marks.states)) e) ∙ read in absurd cc
    by (Some contest) e = slice_get_within election.contests marks.contest contest e

contests-room : (election : Election) (least : ℕ) (list : List ContestMarks) → ascends_from least (contests_of list) ≡ true → list_all (is_read election) list ≡ true → least ≤ length election.contests → least + length list ≤ length election.contests
contests-room election least [] up read room = omega arith
contests-room election least (marks ∷ list) up read room =
    let low : least ≤ marks.contest = at_most-from_yes least marks.contest (and-left _ _ up) in
    let below = contest-below election marks (and-left _ _ read) in
    let rest = contests-room election (marks.contest + 1) list (and-right (nat_le least marks.contest) _ up) (and-right (is_read election marks) _ read) (omega arith) in
    omega arith

abbrev head-of : Election → SheetMarks → Bool
head-of election sheet = nat_lt sheet.card (card_count election.styles) && (sheet.front % 2 == 1) && nat_lt sheet.front 64

-- what a sheet that fits has
pub sheet-read : (election : Election) (sheet : SheetMarks) → is_sheet election sheet ≡ true → list_all (is_read election) sheet.contests ≡ true
sheet-read election sheet h = and-right (head-of election sheet && is_ascending (contests_of sheet.contests)) (list_all (is_read election) sheet.contests) h

pub sheet-ascends : (election : Election) (sheet : SheetMarks) → is_sheet election sheet ≡ true → is_ascending (contests_of sheet.contests) ≡ true
sheet-ascends election sheet h =
    and-right (head-of election sheet) (is_ascending (contests_of sheet.contests))
    (and-left (head-of election sheet && is_ascending (contests_of sheet.contests)) (list_all (is_read election) sheet.contests) h)

-- a sheet that fits a valid election has at most 500 contests
pub few-contests : (election : Election) (sheet : SheetMarks) → IsValid election → is_sheet election sheet ≡ true → length sheet.contests ≤ 500
few-contests election sheet valid fits =
    let room = contests-room election 0 sheet.contests (sheet-ascends election sheet fits) (sheet-read election sheet fits) (omega arith) in
    omega (arith, room, valid.contests.few)

nothing-past : (election : Election) (kept : List Event) (event : Event) → reply_of election kept event ≡ Done → length kept < event_limit
nothing-past election kept event h = by (nat_lt (length kept) event_limit) refl
  where
    by : (b : Bool) → nat_lt (length kept) event_limit ≡ b → length kept < event_limit
    by true e = below-from_yes (length kept) event_limit e
    by false e =
        let full : Full event_limit ≡ Done = sym (ap (λ (b : Bool). cond b (reply_with_room election kept event) (Full event_limit)) e) ∙ h in
        absurd cc

-- a list is empty, or something stands at its last place
last-place : (kept : List Event) → (length kept ≡ 0) ⊎ ((place : ℕ) × (event : Event) × (slice_get kept place ≡ Some event) × (length kept ≡ place + 1))
last-place [] = inl refl
last-place (event ∷ kept) = by (last-place kept)
  where
    by : (length kept ≡ 0) ⊎ ((place : ℕ) × (event : Event) × (slice_get kept place ≡ Some event) × (length kept ≡ place + 1))
        → (suc (length kept) ≡ 0) ⊎ ((place : ℕ) × (one : Event) × (slice_get (event ∷ kept) place ≡ Some one) × (suc (length kept) ≡ place + 1))
    by (inl none) = inr (0, event, refl, omega (arith, none))
    by (inr some) = inr (suc some.0, some.1, some.2, omega (arith, some.3))

-- a history is no longer than the limit
pub few-events : (election : Election) (kept : List Event) → IsHistory election kept → length kept ≤ 1000000
unfolding event_limit
few-events election kept history = by (last-place kept)
  where
    by : (length kept ≡ 0) ⊎ ((place : ℕ) × (event : Event) × (slice_get kept place ≡ Some event) × (length kept ≡ place + 1)) → length kept ≤ 1000000
    by (inl none) = omega (arith, none)
    by (inr some) =
        let before = nothing-past election (take some.0 kept) some.1 (history.done some.0 some.1 some.2) in
        let size = length-take some.0 kept in
        omega (arith, before, size, some.3)

-- what holds of each element holds of the one that is found
found-holds : {X : Type 0} (p q : X → Bool) (xs : List X) (x : X) → find p xs ≡ Some x → list_all q xs ≡ true → (p x ≡ true) × (q x ≡ true)
found-holds p q [] x found all = absurd cc
found-holds {X} p q (y ∷ ys) x found all = by (p y) refl (found-holds p q ys x)
  where
    by : (b : Bool) → p y ≡ b → (find p ys ≡ Some x → list_all q ys ≡ true → (p x ≡ true) × (q x ≡ true)) → (p x ≡ true) × (q x ≡ true)
    by true e rest =
        let same : y ≡ x = same_Some y x (sym (ap (λ (c : Bool). cond c (Some y) (find p ys)) e) ∙ found) in
        (ap p (sym same) ∙ e, ap q (sym same) ∙ and-left (q y) (list_all q ys) all)
    by false e rest = rest (sym (ap (λ (c : Bool). cond c (Some y) (find p ys)) e) ∙ found) (and-right (q y) (list_all q ys) all)

-- a contest on a sheet that fits was read with a state for each option
pub read-options : (election : Election) (sheet : SheetMarks) (number : ℕ) (contest : Contest) (marks : ContestMarks) → is_sheet election sheet ≡ true
    → slice_get election.contests number ≡ Some contest → marks_on sheet number ≡ Some marks → length marks.states ≡ options_of contest
read-options election sheet number contest marks fits there on =
    let holds = found-holds (λ (one : ContestMarks). one.contest == number) (is_read election) sheet.contests marks on (sheet-read election sheet fits) in
    let same : marks.contest ≡ number = equal-from_yes marks.contest number holds.0 in
    let read = sym (ap (λ (o : Option Contest). has_options o (length marks.states)) (ap (slice_get election.contests) same ∙ there)) ∙ holds.1 in
    sym (equal-from_yes (options_of contest) (length marks.states) read)
