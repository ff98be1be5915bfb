-- A sheet that a `count` may have lost when it broke off, and that was counted again.
use Rattle.std.proofs.Common.{◌≡◌, ℕ, ◌+◌, inl, inr, Bool, true, false, cond, List, [], ◌∷◌, ◌++◌, ◌<◌, length, refl, sym, ap, subst, ◌∙◌, length-append, arith}
use Rattle.std.specs.Prelude.{IsOk, Option, Some, None, Result, Ok, filter, find}
use Rattle.std.specs.List.{flat_map, position_from}
use Rattle.std.proofs.lemmas.Bool.{true≢false}
use Rattle.std.proofs.lemmas.Option.{same_Some}
use Rattle.vx_base.proofs.Results.{is-ok_from, ok-is}
use Rattle.vx_election_model.specs.declared.election.Election.{Election}
use Rattle.vx_layout.specs.declared.plan.CardPlan.{CardPlan}
use Rattle.vx_events.specs.declared.event.Event.{Event}
use Rattle.vx_events.specs.declared.event.Event.TheVariants.{Add, Claim, Release, Decide}
use Rattle.vx_events.specs.declared.key.Key.{Key}
use Rattle.vx_sheet.specs.Margin.{MarkedSheet, sheet_marked}
use Rattle.vx_center.specs.Replies.{event_limit}
use Rattle.vx_center.specs.Sheets.{Added, added_from, has_key, same_key, sheet_in, sheet_of, sheets_in}
use Rattle.vx_command.specs.Acts.{Outcome, records_of}
use Rattle.vx_command.specs.Elections.{election_in, plans_in}
use Rattle.vx_journal.specs.Laws.{JournalsStay}
use Rattle.vx_journal.specs.Replay.{replay_of}
use Rattle.vx_command_count.specs.Laws.{CountKeepsJournals}
use Rattle.vx_command_count.specs.Outcome.{count_outcome}
use Rattle.vx_words.specs.declared.command.Command.{Command}
use Rattle.vx_words.specs.Words.{IsSound}
use Rattle.vx_app.specs.Outcome.{appends}
use Rattle.vx_app.specs.Journals.{AreRuns, IsDoneOf, IsRun, Run}
use Rattle.vx_headline.specs.Counted.{CountedBy, Counts, IsNew, IsScanned, Recounts}
use Rattle.vx_headline.proofs.Counted.{CountLaws, IsCounted, named, one-counted, one-shared, scanned-known, later-counted}

-- the first that passes is found
find-alone : {X : Type 0} (test : X → Bool) (xs : List X) (x : X) → filter test xs ≡ x ∷ [] → find test xs ≡ Some x
find-alone test [] x h = absurd cc
find-alone {X} test (y ∷ xs) x h = by (test y) (find-alone test xs x) h
  where
    by : (b : Bool) → (filter test xs ≡ x ∷ [] → find test xs ≡ Some x) → cond b (y ∷ filter test xs) (filter test xs) ≡ x ∷ []
        → cond b (Some y) (find test xs) ≡ Some x
    by true rest h = let same : y ≡ x = cc in ap Some same
    by false rest h = rest h

same-given : {A F : Type 0} (r : Result A F) (x y : A) → r ≡ Ok x → r ≡ Ok y → x ≡ y
same-given r x y a b = cc

-- where none is found, none has a place
pub not-found : {X : Type 0} (test : X → Bool) (n : ℕ) (xs : List X) → find test xs ≡ None → position_from test n xs ≡ None
not-found test n [] h = refl
not-found {X} test n (x ∷ xs) h = by (test x) (not-found test (n + 1) xs) h
  where
    by : (b : Bool) → (find test xs ≡ None → position_from test (n + 1) xs ≡ None) → cond b (Some x) (find test xs) ≡ None
        → cond b (Some n) (position_from test (n + 1) xs) ≡ None
    by true go h = absurd cc
    by false go h = go h

-- a sheet that is found was added by an event
record IsFoundIn (key : Key) (added : Added) (events : List Event) : Type 0 where
  pub before : List Event
  pub more : List Event
  pub are : events ≡ before ++ Add added.key added.sheet ∷ more
  pub keyed : same_key key added.key ≡ true

one-before : (key : Key) (added : Added) (event : Event) (events : List Event) → IsFoundIn key added events → IsFoundIn key added (event ∷ events)
one-before key added event events it =
    record { before = event ∷ it.before; more = it.more; are = ap (λ (some : List Event). event ∷ some) it.are; keyed = it.keyed }

found-in : (key : Key) (added : Added) (events : List Event) (place : ℕ) → find (has_key key) (added_from place events) ≡ Some added
    → IsFoundIn key added events
found-in key added [] place h = absurd cc
found-in key added (Add other sheet ∷ events) place h = by (same_key key other) refl (found-in key added events (place + 1)) h
  where
    by : (b : Bool) → same_key key other ≡ b → (find (has_key key) (added_from (place + 1) events) ≡ Some added → IsFoundIn key added events)
        → cond b (Some (record { at = place; key = other; sheet = sheet })) (find (has_key key) (added_from (place + 1) events)) ≡ Some added
        → IsFoundIn key added (Add other sheet ∷ events)
    by true is go h =
        let same = same_Some (record { at = place; key = other; sheet = sheet }) added h in
        record {
          before = [];
          more = events;
          are = ap (λ (one : Added). Add one.key one.sheet ∷ events) same;
          keyed = ap (λ (one : Added). same_key key one.key) (sym same) ∙ is;
        }
    by false is go h = one-before key added (Add other sheet) events (go h)
found-in key added (Claim station other ∷ events) place h = one-before key added (Claim station other) events (found-in key added events (place + 1) h)
found-in key added (Release station other ∷ events) place h = one-before key added (Release station other) events (found-in key added events (place + 1) h)
found-in key added (Decide station other contest decision ∷ events) place h =
    one-before key added (Decide station other contest decision) events (found-in key added events (place + 1) h)

module _ (laws : CountLaws) (keeps : CountKeepsJournals) (stays : JournalsStay)
    (election : Election) where
  module _ (key : Key) (sheet : MarkedSheet) (records : List (List ℕ)) (one : Run) (run : IsRun election records one) (place : ℕ)
      (s : IsScanned election one key sheet place)
      (plans : List CardPlan) (planned : plans_in election ≡ Ok plans) (before : List Event) (replays : replay_of election records ≡ Ok before)
      (is_new : IsNew election records before key) (room : length before + place < event_limit) where
    is-named : election_in (one.files s.name) ≡ Ok election
    is-named = named laws election key sheet records one run place s

    abbrev outcome : Outcome
    outcome = count_outcome s.name s.batch s.scans one.files records

    abbrev full : List (List ℕ)
    full = records ++ flat_map records_of outcome.acts

    -- the run as it would be if nothing failed
    abbrev unbroken : Run
    unbroken = record { words = one.words; command = one.command; files = one.files; taken = None; taken_now = None; left = full; answer = outcome.ends }

    is-unbroken : IsRun election records unbroken
    is-unbroken =
        let Done : Command → Type 0 = λ command. IsDoneOf command one.files records None None (Some full) outcome.ends in
        record {
          spelled = run.spelled;
          for_it = run.for_it;
          done = subst Done (sym s.is_count) (laws.leaves.all_may_be_done outcome records);
          held = λ none. absurd (true≢false (ap appends (sym s.is_count) ∙ none));
        }

    is-scanned : IsScanned election unbroken key sheet place
    is-scanned = record {
      name = s.name;
      batch = s.batch;
      workers = s.workers;
      scans = s.scans;
      is_count = s.is_count;
      pictured = s.pictured;
    }

    would-count : IsCounted laws election key sheet full
    would-count = one-counted laws election key sheet records unbroken is-unbroken (record {
      place = place;
      scanned = is-scanned;
      before = before;
      is_new = is_new;
      room = room;
      came = inl (laws.ends s.name s.batch s.scans one.files records election plans before is-named planned replays);
    })

    -- whatever the run left under the key is the sheet
    only-it : (after : List Event) → replay_of election one.left ≡ Ok after → (added : Added) → find (has_key key) (sheets_in after) ≡ Some added
        → added.sheet ≡ sheet_marked sheet
    only-it after replayed added found =
        let Sound : Command → Type 0 = λ command. IsSound run.spelled.device command in
        let sound = subst Sound s.is_count run.spelled.sound in
        let Done : Command → Type 0 = λ command. IsDoneOf command one.files records one.taken one.taken_now (Some one.left) one.answer in
        let part = laws.leaves.leaves outcome one.taken one.taken_now records one.left one.answer (subst Done s.is_count run.done) in
        let stay = keeps s.name s.batch s.scans one.files records election sound.batch_in_range is-named
        (is-ok_from (replay_of election records) before replays) in
        let whole = ok-is (replay_of election full) (stays election records outcome None None (Some full) outcome.ends stay (laws.leaves.all_may_be_done outcome records)) in
        let Replays : List (List ℕ) → Type 0 = λ some. replay_of election some ≡ Ok whole.0 in
        let first = laws.fronts election one.left part.rest whole.0 (subst Replays part.front whole.1) in
        let same : first.events_then ≡ after = same-given (replay_of election one.left) first.events_then after first.replays replayed in
        let now : whole.0 ≡ after ++ first.more = first.are ∙ ap (λ (some : List Event). some ++ first.more) same in
        let history = laws.histories election full whole.0 whole.1 in
        let it = would-count.added whole.0 whole.1 in
        let only = laws.alone election it.before it.more key (sheet_marked sheet) whole.0 it.are history in
        let marked : sheet_in whole.0 key ≡ Some (sheet_marked sheet) = ap sheet_of (find-alone (has_key key) (sheets_in whole.0) _ only) in
        let had : sheet_in whole.0 key ≡ Some added.sheet =
        ap (λ (some : List Event). sheet_in some key) now ∙ laws.stay after first.more key added.sheet (ap sheet_of found) in
        same_Some added.sheet (sheet_marked sheet) (sym had ∙ marked)

  recounted : (key : Key) (sheet : MarkedSheet) (records : List (List ℕ)) (one : Run) (runs : List Run) (left : List (List ℕ)) → IsRun election records one
      → AreRuns election one.left runs left → Recounts election records one runs key sheet → IsCounted laws election key sheet left
  recounted key sheet records one runs left run behind re =
      let planned : IsOk (plans_in election) = assumption re.is_new.planned in
      let plans = ok-is (plans_in election) planned in
      by plans.0 plans.1 (find (has_key key) (sheets_in re.after)) refl
    where
      Are : List Run → Type 0
      Are some = AreRuns election one.left some left

      are : AreRuns election one.left (re.again ∷ re.further) left
      are = let both : runs ≡ re.again ∷ re.further = assumption re.are in subst Are both behind

      replayed : replay_of election records ≡ Ok re.before
      replayed = assumption re.is_new.replays

      replayed_after : replay_of election one.left ≡ Ok re.after
      replayed_after = assumption re.replays_after

      -- the second had room, so the first had it too
      was_room : length re.before + re.place < event_limit
      was_room =
          let added = laws.more election records (one ∷ []) one.left (run, refl) in
          let Replays : List (List ℕ) → Type 0 = λ some. replay_of election some ≡ Ok re.after in
          let front = laws.fronts election records added.more re.after (subst Replays added.are replayed_after) in
          let same : front.events_then ≡ re.before = same-given (replay_of election records) front.events_then re.before front.replays replayed in
          let size : length re.after ≡ length re.before + length front.more =
          ap length (front.are ∙ ap (λ (some : List Event). some ++ front.more) same) ∙ length-append re.before front.more in
          let room = re.room in
          omega (arith, size, room)

      by : (plans : List CardPlan) → plans_in election ≡ Ok plans → (found : Option Added) → find (has_key key) (sheets_in re.after) ≡ found
          → IsCounted laws election key sheet left
      by plans planned None none =
          let counts : Counts election one.left re.again key sheet = record {
            place = re.place;
            scanned = (assumption re.scanned_again);
            before = re.after;
            is_new = record {
              planned = re.is_new.planned;
              replays = replayed_after;
              new = not-found (has_key key) 0 (sheets_in re.after) none;
            };
            room = (let room = re.room in omega (arith, room));
            came = inl (assumption re.whole);
          } in
          let further = laws.more election re.again.left re.further left are.1 in
          later-counted laws election key sheet re.again.left further.more left further.are
          (one-counted laws election key sheet one.left re.again are.0 counts)
      by plans planned (Some added) found =
          let it = found-in key added re.after 0 found in
          let marked = only-it key sheet records one run re.place re.scanned plans planned re.before replayed re.is_new was_room re.after replayed_after added
          found in
          let keyed : added.key ≡ key = sym (laws.equal_keys key added.key it.keyed) in
          let event : Add added.key added.sheet ≡ Add key (sheet_marked sheet) = ap (λ (some : Key). Add some added.sheet) keyed ∙ ap (Add key) marked in
          let further = laws.more election one.left runs left behind in
          later-counted laws election key sheet one.left further.more left further.are (record {
            known = scanned-known laws election key sheet records one run re.place re.scanned;
            added = λ kept replays.
                (let same : kept ≡ re.after = same-given (replay_of election one.left) kept re.after replays replayed_after in
                record { before = it.before; more = it.more; are = same ∙ it.are ∙ ap (λ (some : Event). it.before ++ some ∷ it.more) event });
          })

  pub counted : (key : Key) (sheet : MarkedSheet) (records : List (List ℕ)) (runs : List Run) (left : List (List ℕ)) → AreRuns election records runs left
      → CountedBy election records runs key sheet → IsCounted laws election key sheet left
  counted key sheet records [] left are h = elim h [ ]
  counted key sheet records (one ∷ runs) left are (inl (inl (inl here))) =
      let further = laws.more election one.left runs left are.1 in
      later-counted laws election key sheet one.left further.more left further.are (one-counted laws election key sheet records one are.0 (assumption here))
  counted key sheet records (one ∷ runs) left are (inl (inl (inr here))) =
      let further = laws.more election one.left runs left are.1 in
      later-counted laws election key sheet one.left further.more left further.are (one-shared laws election key sheet records one are.0 (assumption here))
  counted key sheet records (one ∷ runs) left are (inl (inr again)) = recounted key sheet records one runs left are.0 are.1 (assumption again)
  counted key sheet records (one ∷ runs) left are (inr later) = counted key sheet one.left runs left are.1 (assumption later)
