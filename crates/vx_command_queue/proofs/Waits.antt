-- The lines of the queue are those of what waits.
use Rattle.std.proofs.Common.{◌≡◌, ◌⊎◌, inl, inr, ℕ, zero, suc, ◌+◌, ◌%◌, ◌≤◌, Bool, true, false, cond, List, [], ◌∷◌, ◌++◌, map, refl, sym, ap, ap₂, ◌∙◌, arith}
use Rattle.std.specs.Prelude.{◌&&◌, ◌==◌, not, filter, nat_le, nat_lt, slice_get, length, Option, Some, None}
use Rattle.std.specs.List.{flat_map, list_all}
use Rattle.std.proofs.lemmas.List.{map-append}
use Rattle.std.proofs.lemmas.Option.{same_Some}
use Rattle.vx_base.proofs.Booleans.{and-left, and-right}
use Rattle.vx_base.proofs.Numbers.{at_most-from_yes}
use Rattle.vx_election_model.specs.declared.contest.Contest.{Contest}
use Rattle.vx_election_model.specs.declared.election.Election.{Election}
use Rattle.vx_election_model.specs.Lists.{card_count}
use Rattle.vx_rules.specs.declared.marks.ContestMarks.{ContestMarks}
use Rattle.vx_rules.specs.declared.marks.SheetMarks.{SheetMarks}
use Rattle.vx_events.specs.Ascending.{ascends_from, is_ascending}
use Rattle.vx_events.specs.declared.event.Event.{Event}
use Rattle.vx_events.specs.Fits.{contests_of, has_options, is_read, is_sheet}
use Rattle.vx_center.specs.Holders.{holder_of}
use Rattle.vx_center.specs.Laws.{AddedSheetsFit, SheetsHaveOwnPlaces}
use Rattle.vx_center.specs.Sheets.{Added, sheets_in}
use Rattle.vx_center.specs.Waiting.{exports}
use Rattle.vx_rules.specs.Reasons.{is_blank_sheet}
use Rattle.vx_journal.specs.Laws.{TextsAreOfJournals}
use Rattle.vx_command_queue.specs.Laws.{OfSheet, QueuesListWhatWaits, QueuesWriteWhatWaits, WaitsOnce, line_at, line_of_waiting, waiting_on}
use Rattle.vx_command_queue.specs.Queue.{contest_lines, queue_text, sheet_lines, wait_lines}

-- what a sheet that fits says of its contests: they ascend, and each is one of the election's
module _ (election : Election) (sheet : SheetMarks) (fits : is_sheet election sheet ≡ true) where
  abbrev card : Bool
  card = nat_lt sheet.card (card_count election.styles)

  abbrev odd : Bool
  odd = (sheet.front % 2) == 1

  abbrev few : Bool
  few = nat_lt sheet.front 64

  abbrev up : Bool
  up = is_ascending (contests_of sheet.contests)

  ascending : up ≡ true
  ascending = and-right (card && odd && few) up (and-left (card && odd && few && up) (list_all (is_read election) sheet.contests) fits)

  all-read : list_all (is_read election) sheet.contests ≡ true
  all-read = and-right (card && odd && few && up) (list_all (is_read election) sheet.contests) fits

module _ (election : Election) (kept : List Event) (added : Added) where
  abbrev waits : ContestMarks → Bool
  waits marks = not (exports election kept added marks)

  abbrev with-sheet : ContestMarks → OfSheet
  with-sheet marks = record { added = added; marks = marks }

  abbrev lines-of : ContestMarks → List (List ℕ)
  lines-of marks = wait_lines election kept added.key added.sheet marks

  -- a contest that is exported has no line; one that waits has its own
  one-line : (marks : ContestMarks) → is_read election marks ≡ true
      → map Some (lines-of marks) ≡ map (line_of_waiting election kept) (map with-sheet (cond (waits marks) (marks ∷ []) []))
  one-line marks read = by (exports election kept added marks) (slice_get election.contests marks.contest) refl read
    where
      by : (b : Bool) (found : Option Contest) → slice_get election.contests marks.contest ≡ found → has_options found (length marks.states) ≡ true
          → map Some (cond b [] (contest_lines election added.key (is_blank_sheet added.sheet) marks (holder_of kept added.key) found))
          ≡ map (line_of_waiting election kept) (map with-sheet (cond (not b) (marks ∷ []) []))
      by true found is h = refl
      by false None is h = absurd cc
      by false (Some contest) is h = ap (λ (found : Option Contest). line_at election kept (with-sheet marks) found ∷ []) (sym is)

  lines-on : (contests : List ContestMarks) → list_all (is_read election) contests ≡ true
      → map Some (flat_map lines-of contests) ≡ map (line_of_waiting election kept) (map with-sheet (filter waits contests))
  lines-on [] read = refl
  lines-on (marks ∷ contests) read =
      map-append Some (lines-of marks) (flat_map lines-of contests)
      ∙ ap₂ (λ (some more : List (Option (List ℕ))). some ++ more) (one-line marks (and-left (is_read election marks) (list_all (is_read election) contests) read))
      (lines-on contests (and-right (is_read election marks) (list_all (is_read election) contests) read))
      ∙ joined (waits marks)
    where
      joined : (b : Bool)
          → map (line_of_waiting election kept) (map with-sheet (cond b (marks ∷ []) [])) ++ map (line_of_waiting election kept) (map with-sheet (filter waits contests))
          ≡ map (line_of_waiting election kept) (map with-sheet (cond b (marks ∷ filter waits contests) (filter waits contests)))
      joined true = refl
      joined false = refl

  -- a contest that waits on a sheet is one of the sheet's, and comes once
  record OnSheet (one : OfSheet) (least : ℕ) : Type 0 where
    pub of : one.added ≡ added
    pub low : least ≤ one.marks.contest

  lower : (one : OfSheet) (least more : ℕ) → OnSheet one more → least ≤ more → OnSheet one least
  lower one least more it low = record { of = it.of; low = let high = it.low in omega (arith, low, high) }

  on-sheet : (contests : List ContestMarks) (least : ℕ) → ascends_from least (contests_of contests) ≡ true → (place : ℕ) (one : OfSheet)
      → slice_get (map with-sheet (filter waits contests)) place ≡ Some one → OnSheet one least
  on-sheet [] least up place one at = absurd cc
  on-sheet (marks ∷ contests) least up place one at =
      by (waits marks) place (on-sheet contests (marks.contest + 1) (and-right (nat_le least marks.contest) (ascends_from (marks.contest + 1) (contests_of contests)) up)) at
    where
      first : least ≤ marks.contest
      first = at_most-from_yes least marks.contest (and-left (nat_le least marks.contest) (ascends_from (marks.contest + 1) (contests_of contests)) up)

      by : (b : Bool) (place : ℕ)
          → ((place : ℕ) (one : OfSheet) → slice_get (map with-sheet (filter waits contests)) place ≡ Some one → OnSheet one (marks.contest + 1))
          → slice_get (map with-sheet (cond b (marks ∷ filter waits contests) (filter waits contests))) place ≡ Some one → OnSheet one least
      by true zero go at =
          let same : with-sheet marks ≡ one = same_Some (with-sheet marks) one at in
          record {
            of = ap (λ (some : OfSheet). some.added) (sym same);
            low = let number : marks.contest ≡ one.marks.contest = ap (λ (some : OfSheet). some.marks.contest) same in omega (arith, first, number);
          }
      by true (suc place) go at = lower one least (marks.contest + 1) (go place one at) (omega (arith, first))
      by false place go at = lower one least (marks.contest + 1) (go place one at) (omega (arith, first))

  once-on : (contests : List ContestMarks) (least : ℕ) → ascends_from least (contests_of contests) ≡ true → (place further : ℕ) (one other : OfSheet)
      → slice_get (map with-sheet (filter waits contests)) place ≡ Some one → slice_get (map with-sheet (filter waits contests)) further ≡ Some other
      → one.marks.contest ≡ other.marks.contest → place ≡ further
  once-on [] least up place further one other here there same = absurd cc
  once-on (marks ∷ contests) least up place further one other here there same =
      by (waits marks) place further (on-sheet contests (marks.contest + 1) above) (once-on contests (marks.contest + 1) above) here there
    where
      above : ascends_from (marks.contest + 1) (contests_of contests) ≡ true
      above = and-right (nat_le least marks.contest) (ascends_from (marks.contest + 1) (contests_of contests)) up

      number : (some : OfSheet) → Some (with-sheet marks) ≡ Some some → marks.contest ≡ some.marks.contest
      number some at = ap (λ (one : OfSheet). one.marks.contest) (same_Some (with-sheet marks) some at)

      by : (b : Bool) (place further : ℕ)
          → ((place : ℕ) (one : OfSheet) → slice_get (map with-sheet (filter waits contests)) place ≡ Some one → OnSheet one (marks.contest + 1))
          → ((place further : ℕ) (one other : OfSheet) → slice_get (map with-sheet (filter waits contests)) place ≡ Some one
          → slice_get (map with-sheet (filter waits contests)) further ≡ Some other → one.marks.contest ≡ other.marks.contest → place ≡ further)
          → slice_get (map with-sheet (cond b (marks ∷ filter waits contests) (filter waits contests))) place ≡ Some one
          → slice_get (map with-sheet (cond b (marks ∷ filter waits contests) (filter waits contests))) further ≡ Some other
          → place ≡ further
      by true zero zero low go here there = refl
      by true zero (suc further) low go here there =
          let first = number one here in
          let high = (low further other there).low in
          absurd (omega (arith, first, high, same))
      by true (suc place) zero low go here there =
          let first = number other there in
          let high = (low place one here).low in
          absurd (omega (arith, first, high, same))
      by true (suc place) (suc further) low go here there = ap suc (go place further one other here there same)
      by false place further low go here there = go place further one other here there same

-- a place in two lists, one behind the other
in-parts : {X : Type 0} (front back : List X) (place : ℕ) (x : X) → slice_get (front ++ back) place ≡ Some x
    → (slice_get front place ≡ Some x) ⊎ ((further : ℕ) × ((place ≡ length front + further) × (slice_get back further ≡ Some x)))
in-parts [] back place x at = let same : place ≡ 0 + place = omega arith in inr (place, (same, at))
in-parts (y ∷ front) back zero x at = inl at
in-parts (y ∷ front) back (suc place) x at = later (in-parts front back place x at)
  where
    later : (slice_get front place ≡ Some x) ⊎ ((further : ℕ) × ((place ≡ length front + further) × (slice_get back further ≡ Some x)))
        → (slice_get (y ∷ front) (suc place) ≡ Some x)
        ⊎ ((further : ℕ) × ((suc place ≡ length (y ∷ front) + further) × (slice_get back further ≡ Some x)))
    later (inl here) = inl here
    later (inr there) = inr (there.0, (let same = there.1.0 in omega (arith, same), there.1.1))

module _ (election : Election) (kept : List Event) where
  -- each of some sheets fits, and no two have one key
  record AreSheets (sheets : List Added) : Type 0 where
    pub fit : (place : ℕ) (added : Added) → slice_get sheets place ≡ Some added → is_sheet election added.sheet ≡ true
    pub own : (place further : ℕ) (one other : Added) → slice_get sheets place ≡ Some one → slice_get sheets further ≡ Some other → one.key ≡ other.key
        → place ≡ further

  tail : (added : Added) (sheets : List Added) → AreSheets (added ∷ sheets) → AreSheets sheets
  tail added sheets are = record {
    fit = λ place one at. are.fit (suc place) one at;
    own = λ place further one other here there same. (let next : suc place ≡ suc further = are.own (suc place) (suc further) one other here there same in omega (arith, next));
  }

  all-lines : (sheets : List Added) → AreSheets sheets
      → map Some (flat_map (sheet_lines election kept) sheets) ≡ map (line_of_waiting election kept) (flat_map (waiting_on election kept) sheets)
  all-lines [] are = refl
  all-lines (added ∷ sheets) are =
      map-append Some (sheet_lines election kept added) (flat_map (sheet_lines election kept) sheets)
      ∙ ap₂ (λ (some more : List (Option (List ℕ))). some ++ more)
      (lines-on election kept added added.sheet.contests (all-read election added.sheet (are.fit 0 added refl))) (all-lines sheets (tail added sheets are))
      ∙ sym (map-append (line_of_waiting election kept) (waiting_on election kept added) (flat_map (waiting_on election kept) sheets))

  -- what waits is of one of the sheets
  of-sheet : (sheets : List Added) → AreSheets sheets → (place : ℕ) (one : OfSheet) → slice_get (flat_map (waiting_on election kept) sheets) place ≡ Some one
      → (at : ℕ) × (slice_get sheets at ≡ Some one.added)
  of-sheet [] are place one at = absurd cc
  of-sheet (added ∷ sheets) are place one at =
      by (in-parts (waiting_on election kept added) (flat_map (waiting_on election kept) sheets) place one at)
      (λ further there. of-sheet sheets (tail added sheets are) further one there)
    where
      by : (slice_get (waiting_on election kept added) place ≡ Some one)
          ⊎ ((further : ℕ) × ((place ≡ length (waiting_on election kept added) + further) × (slice_get (flat_map (waiting_on election kept) sheets) further ≡ Some one)))
          → ((further : ℕ) → slice_get (flat_map (waiting_on election kept) sheets) further ≡ Some one → (at : ℕ) × (slice_get sheets at ≡ Some one.added))
          → (at : ℕ) × (slice_get (added ∷ sheets) at ≡ Some one.added)
      by (inl here) go =
          (0, ap Some (sym (on-sheet election kept added added.sheet.contests 0 (ascending election added.sheet (are.fit 0 added refl)) place one here).of))
      by (inr there) go = let at = go there.0 there.1.1 in (suc at.0, at.1)

  -- the first sheet has another key than those behind it
  apart : (added : Added) (sheets : List Added) → AreSheets (added ∷ sheets) → (place further : ℕ) (one other : OfSheet)
      → slice_get (waiting_on election kept added) place ≡ Some one → slice_get (flat_map (waiting_on election kept) sheets) further ≡ Some other
      → one.added.key ≡ other.added.key → ⊥
  apart added sheets are place further one other here there same =
      let of = (on-sheet election kept added added.sheet.contests 0 (ascending election added.sheet (are.fit 0 added refl)) place one here).of in
      let at = of-sheet sheets (tail added sheets are) further other there in
      let key : added.key ≡ other.added.key = ap (λ (some : Added). some.key) (sym of) ∙ same in
      let never : 0 ≡ suc at.0 = are.own 0 (suc at.0) added other.added refl at.1 key in
      omega (arith, never)

  all-once : (sheets : List Added) → AreSheets sheets → WaitsOnce (flat_map (waiting_on election kept) sheets)
  all-once [] are place further one other here there key same = absurd cc
  all-once (added ∷ sheets) are place further one other here there key same =
      by (in-parts (waiting_on election kept added) (flat_map (waiting_on election kept) sheets) place one here)
      (in-parts (waiting_on election kept added) (flat_map (waiting_on election kept) sheets) further other there)
      (λ m n a b. all-once sheets (tail added sheets are) m n one other a b key same)
    where
      Part : ℕ → OfSheet → Type 0
      Part n some =
          (slice_get (waiting_on election kept added) n ≡ Some some)
          ⊎ ((later : ℕ) × ((n ≡ length (waiting_on election kept added) + later) × (slice_get (flat_map (waiting_on election kept) sheets) later ≡ Some some)))

      by : Part place one → Part further other
          → ((m n : ℕ) → slice_get (flat_map (waiting_on election kept) sheets) m ≡ Some one → slice_get (flat_map (waiting_on election kept) sheets) n ≡ Some other → m ≡ n)
          → place ≡ further
      by (inl a) (inl b) go =
          once-on election kept added added.sheet.contests 0 (ascending election added.sheet (are.fit 0 added refl)) place further one other a b same
      by (inl a) (inr b) go = absurd (apart added sheets are place b.0 one other a b.1.1 key)
      by (inr a) (inl b) go = absurd (apart added sheets are further a.0 other one b a.1.1 (sym key))
      by (inr a) (inr b) go =
          let next : a.0 ≡ b.0 = go a.0 b.0 a.1.1 b.1.1 in
          let left = a.1.0 in
          let right = b.1.0 in
          omega (arith, next, left, right)

pub lists : AddedSheetsFit → SheetsHaveOwnPlaces → QueuesListWhatWaits
lists fit own election kept history =
    let are : AreSheets election kept (sheets_in kept) = record {
      fit = λ place added at. (fit election kept place added history at).sheet;
      own = λ place further one other here there same. own election kept place further one other history here there same;
    } in
    record { lines = all-lines election kept (sheets_in kept) are; once = all-once election kept (sheets_in kept) are }

pub writes : QueuesListWhatWaits → TextsAreOfJournals → QueuesWriteWhatWaits
writes lists texts name files records taken taken_now held held_now answer it well =
    let wrote = texts name files records (λ election events. queue_text election events) taken taken_now held held_now answer it well in
    record {
      election = wrote.election;
      is_read = wrote.is_read;
      events = wrote.events;
      are_kept = wrote.are_kept;
      text = wrote.wrote;
      history = wrote.history;
      lists = lists wrote.election wrote.events wrote.history;
    }
