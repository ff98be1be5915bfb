-- An export could be run behind the runs, which shows what the journal keeps of the sheets that they counted.
use Rattle.std.proofs.Common.{◌≡◌, ℕ, suc, Bool, true, false, cond, List, [], ◌∷◌, ◌++◌, append-nil, map, Some, None, Ok, inl, inr, refl, sym, ap, subst, ◌∙◌, arith}
use Rattle.std.specs.Prelude.{codes, filter, slice_get}
use Rattle.std.specs.List.{flat_map}
use Rattle.vx_io.specs.Outside.{Files}
use Rattle.uuid.specs.Text.{by_index}
use Rattle.vx_election_model.specs.Dates.{is_date}
use Rattle.vx_election_model.specs.declared.election.Election.{Election}
use Rattle.vx_events.specs.declared.event.Event.{Event}
use Rattle.vx_events.specs.declared.key.Key.{Key}
use Rattle.vx_sheet.specs.Margin.{MarkedSheet}
use Rattle.vx_rules.specs.declared.marks.SheetMarks.{SheetMarks}
use Rattle.vx_center.specs.Histories.{IsHistory}
use Rattle.vx_center.specs.Sheets.{has_key, sheets_in}
use Rattle.vx_cvr.specs.Pieces.{report_pieces}
use Rattle.vx_command.specs.Acts.{Outcome, Write, records_of}
use Rattle.vx_command.specs.Done.{IsDone}
use Rattle.vx_command.specs.Elections.{election_in}
use Rattle.vx_command.specs.Laws.{StepLaws}
use Rattle.vx_journal.specs.declared.journal.Journal.{Journal}
use Rattle.vx_journal.specs.Keeping.{has_none, journal_in, journal_read}
use Rattle.vx_journal.specs.Laws.{ReadLaws}
use Rattle.vx_journal.specs.Replay.{replay_of}
use Rattle.vx_journal.specs.Steps.{once_read}
use Rattle.vx_command_export.specs.Outcome.{export_outcome, writing_each}
use Rattle.vx_words.specs.declared.command.Command.{Command}
use Rattle.vx_words.specs.declared.command.Command.TheVariants.{Count, Export}
use Rattle.vx_words.specs.Devices.{device_of}
use Rattle.vx_words.specs.Moments.{is_moment}
use Rattle.vx_words.specs.Words.{IsArgument, IsSound}
use Rattle.vx_app.specs.Journals.{AreRuns, IsFor, IsRun, Run}
use Rattle.vx_headline.specs.Counted.{CountedBy}
use Rattle.vx_headline.specs.Exported.{IsExport, MarkedPagesAreExported}
use Rattle.vx_ranked.specs.Marked.{AreUndecided, UndecidedSheetsAreRankedAsMarked, marked_ranking}
use Rattle.vx_ranked.specs.Rankings.{finals_of, is_ranked, rankings_on}
use Rattle.vx_ranked_as_marked.specs.Ranked.{MarkedPagesAreRanked}

-- the election was taken under a name that may be an argument
record Named (election : Election) : Type 0 where
  name : List ℕ
  files : Files
  is_argument : IsArgument name
  is_named : election_in (files name) ≡ Ok election

named_count : (election : Election) (one : Run) (records : List (List ℕ)) (name batch : List ℕ) (workers : ℕ) (scans : List (List ℕ))
    → one.command ≡ Count name batch workers scans → IsRun election records one → Named election
named_count election one records name batch workers scans is run =
    let For : Command → Type 0 = λ command. IsFor command one.files election in
    let Sound : Command → Type 0 = λ command. IsSound run.spelled.device command in
    let sound = subst Sound is run.spelled.sound in
    record { name = name; files = one.files; is_argument = sound.is_argument; is_named = subst For is run.for_it }

-- a run that counted a sheet took the election
counted-named : (election : Election) (records : List (List ℕ)) (runs : List Run) (left : List (List ℕ)) (key : Key) (sheet : MarkedSheet)
    → AreRuns election records runs left → CountedBy election records runs key sheet → Named election
counted-named election records [] left key sheet are by = absurd by
counted-named election records (one ∷ runs) left key sheet are (inl (inl (inl counts))) =
    named_count election one records counts.scanned.name counts.scanned.batch counts.scanned.workers counts.scanned.scans counts.scanned.is_count are.0
counted-named election records (one ∷ runs) left key sheet are (inl (inl (inr counts))) =
    let item = counts.is_item in
    let For : Command → Type 0 = λ command. IsFor command one.files election in
    let Sound : Command → Type 0 = λ command. IsSound are.0.spelled.device command in
    let sound = subst Sound item.is_center are.0.spelled.sound in
    record { name = item.name; files = one.files; is_argument = sound.as_export.is_argument; is_named = subst For item.is_center are.0.for_it }
counted-named election records (one ∷ runs) left key sheet are (inl (inr counts)) =
    named_count election one records counts.scanned.name counts.scanned.batch counts.scanned.workers counts.scanned.scans counts.scanned.is_count are.0
counted-named election records (one ∷ runs) left key sheet are (inr later) = counted-named election one.left runs left key sheet are.1 later

-- texts that are written keep nothing
none_kept : (pieces : List (List ℕ)) → flat_map records_of (map Write pieces) ≡ []
none_kept [] = refl
none_kept (piece ∷ pieces) = none_kept pieces

-- a moment and a device
moment : List ℕ
moment = codes "2024-11-06T08:00:00Z"

device : List ℕ
device = codes "00000000-0000-4000-8000-000000000001"

moment_is : is_moment moment ≡ true
unfolding moment is_moment is_date
moment_is = refl

device_is : device_of device ≡ Some device
unfolding device by_index
device_is = refl

moment_argument : IsArgument moment
unfolding moment
moment_argument = record { some = omega arith; no_option = λ e. absurd (omega (arith, e)) }

device_argument : IsArgument device
unfolding device
device_argument = record { some = omega arith; no_option = λ e. absurd (omega (arith, e)) }

module _ (steps : StepLaws Election) (reads : ReadLaws) (election : Election) (runs : List Run) (left : List (List ℕ)) (kept : List Event)
    (are : AreRuns election [] runs left) (replays : replay_of election left ≡ Ok kept) (it : Named election) where
  -- the journal that the export would read
  journal : Journal
  journal = record { center = record { election = election; events = kept }; is_new = has_none left }

  is_journal : journal_in election left ≡ Ok journal
  unfolding journal
  is_journal = ap (journal_read election (has_none left)) replays

  wrote : (pieces : List (List ℕ)) → IsDone (writing_each pieces) None None (Some left) (Some left) (Ok tt)
  wrote pieces = record {
    done = map Write pieces;
    left = [];
    are_acts = sym (append-nil (map Write pieces));
    text = [];
    records = [];
    took = refl;
    kept = ap (λ (some : List (List ℕ)). Some some)
        (sym (ap (λ (more : List (List ℕ)). left ++ more) (append-nil (flat_map records_of (map Write pieces)) ∙ none_kept pieces) ∙ append-nil left));
    ends = inl (record { all = refl; no_more = (refl, refl); same_answer = refl });
  }

  last : Run
  last = record {
    words = codes "export" ∷ it.name ∷ moment ∷ device ∷ [];
    command = Export it.name moment device;
    files = it.files;
    taken = None;
    taken_now = None;
    left = left;
    answer = Ok tt;
  }

  done : IsDone (export_outcome it.name moment device it.files left) None None (Some left) (Some left) (Ok tt)
  done =
      let rest : Journal → Outcome = λ one. writing_each (report_pieces election one.center.events moment device) in
      steps.taken 1 (election_in (it.files it.name)) election
      (λ given. once_read given left (λ one. writing_each (report_pieces given one.center.events moment device))) None it.is_named (Some left) None (Some left) (Ok tt)
      (reads.read election left journal rest None (Some left) is_journal None (Some left) (Ok tt) (wrote (report_pieces election journal.center.events moment device)))

  export : IsExport election runs left last moment device
  unfolding last
  export = record {
    are_runs = are;
    is_run = record {
      spelled = record {
        device = device;
        words_are = refl;
        sound = record {
          is_argument = it.is_argument;
          moment_is_argument = moment_argument;
          is_moment = moment_is;
          device_is_argument = device_argument;
          is_named = device_is;
        };
      };
      for_it = it.is_named;
      done = done;
      held = λ _. refl;
    };
    name = it.name;
    is_export = refl;
    well = refl;
  }

-- one that passes stands somewhere
found : {X : Type 0} (p : X → Bool) (xs : List X) (x : X) → filter p xs ≡ x ∷ [] → (place : ℕ) × (slice_get xs place ≡ Some x)
found p [] x is = absurd cc
found {X} p (first ∷ xs) x is = by (p first) refl is (found p xs x)
  where
    by : (b : Bool) → p first ≡ b → cond b (first ∷ filter p xs) (filter p xs) ≡ x ∷ [] → (filter p xs ≡ x ∷ [] → (place : ℕ) × (slice_get xs place ≡ Some x))
        → (place : ℕ) × (slice_get (first ∷ xs) place ≡ Some x)
    by true passes is rest = let same : first ≡ x = cc in (0, ap (λ (one : X). Some one) same)
    by false fails is rest = let more = rest is in (suc more.0, more.1)

pub ranked : StepLaws Election → ReadLaws → MarkedPagesAreExported → UndecidedSheetsAreRankedAsMarked → MarkedPagesAreRanked
ranked steps reads exported as_marked election runs left kept key sheet contests are replays by undecided =
    let it = counted-named election [] runs left key sheet are by in
    let all = exported election runs left (last steps reads election runs left kept are replays it) moment device
    (export steps reads election runs left kept are replays it) in
    let same : all.kept ≡ kept = let one = all.are_kept in cc in
    let stands = all.marked key sheet by in
    let added = stands.0 in
    let one_sheet : filter (has_key key) (sheets_in kept) ≡ added ∷ [] = ap (λ (events : List Event). filter (has_key key) (sheets_in events)) (sym same) ∙ stands.1.one_sheet in
    let place = found (has_key key) (sheets_in kept) added one_sheet in
    let Undecided : Key → Type 0 = λ some. AreUndecided kept some contests in
    let ranking = as_marked election kept contests place.0 added (subst (λ (events : List Event). IsHistory election events) same all.history) place.1
    (subst Undecided (sym stands.1.keyed) undecided) in
    let Ranked : SheetMarks → Type 0 = λ marks. rankings_on election kept contests added
    ≡ cond (is_ranked contests added.sheet (finals_of election kept added)) (marked_ranking marks contests ∷ []) [] in
    record {
      added = added;
      one_sheet = one_sheet;
      marked = stands.1.marked;
      front = stands.1.front;
      back = stands.1.back;
      ranked = subst Ranked stands.1.marked ranking;
    }
