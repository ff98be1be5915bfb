-- Where `center` ended well, it reported what its journal keeps.
use Rattle.std.proofs.Common.{◌≡◌, ◌⊎◌, inl, inr, ℕ, ◌+◌, Bool, true, false, cond, List, [], ◌∷◌, ◌++◌, map, Some, Result, Ok, Err, refl, sym, ap, subst, ◌∙◌, append_assoc, append-nil}
use Rattle.std.specs.Prelude.{All}
use Rattle.std.specs.List.{flat_map}
use Rattle.std.proofs.lemmas.Grind.{flat_map-append}
use Rattle.vx_base.specs.Results.{◌>>=◌}
use Rattle.vx_io.specs.Outside.{Files, Took}
use Rattle.vx_election_model.specs.declared.election.Election.{Election}
use Rattle.vx_election_model.specs.Valid.{IsValid}
use Rattle.vx_events.specs.declared.event.Event.{Event}
use Rattle.vx_layout.specs.declared.plan.CardPlan.{CardPlan}
use Rattle.vx_refusals.specs.declared.journal.JournalStop.{JournalStop}
use Rattle.vx_center.specs.Laws.{HistoriesAreShown, RepliesAreDoneOrRefuse}
use Rattle.vx_center.specs.Replies.{is_done}
use Rattle.vx_cvr.specs.Report.{report_of}
use Rattle.vx_records.specs.Records.{record_of}
use Rattle.vx_script.specs.Laws.{SaidEventsAreHeld}
use Rattle.vx_sheet.specs.Shows.{SheetEventsAreKeepable}
use Rattle.vx_shared.specs.declared.history.Entry.{Entry}
use Rattle.vx_shared.specs.Legal.{done_events, events_in}
use Rattle.vx_words.specs.declared.command.ItemWord.{ItemWord}
use Rattle.vx_words.specs.Items.{IsItem}
use Rattle.vx_command.specs.declared.halt.Halt.{Halt}
use Rattle.vx_command.specs.Acts.{Act, Answer, Write, Outcome, goes_on, records_of, text_of, work}
use Rattle.vx_command.specs.Done.{BreaksOff, Held, IsDone, IsWhole, Taken}
use Rattle.vx_command.specs.Elections.{election_in, once_planned, plans_in}
use Rattle.vx_command.specs.Laws.{TakenElectionsAreValid}
use Rattle.vx_journal.specs.declared.journal.Journal.{Journal}
use Rattle.vx_journal.specs.Keeping.{begin_acts, has_none, journal_in, journal_read}
use Rattle.vx_journal.specs.Laws.{HeadersBeginJournals, IsBegun, JournalsAreHistories, JournalsGrow}
use Rattle.vx_journal.specs.Replay.{replay_of}
use Rattle.vx_journal.specs.Steps.{once_read}
use Rattle.vx_command_center.specs.declared.item.Item.{Item}
use Rattle.vx_command_center.specs.Histories.{IsHistoryOf}
use Rattle.vx_command_center.specs.Items.{events_of, lines_of_item, possible_of}
use Rattle.vx_command_center.specs.Laws.{CenterReportsWhatIsKept, IsOfItems, ReportedWhatIsKept}
use Rattle.vx_command_center.specs.Outcome.{append_acts, center_outcome, end_acts, history_acts, items_outcome, items_taken, journal_outcome, name_in, report_line, taken_item, written_acts}
use Rattle.vx_command_center.proofs.Keepable.{Each, each_mixed, items_each}
use Rattle.vx_command_center.proofs.Kept.{LegalFrom, legal_from}

-- a command ended well that had done these acts
pub record WentWell (ends : Answer) (acts : List Act) (taken taken_now : Taken) (records : List (List ℕ)) (held_now : Held) : Type 0 where
  pub ends_well : ends ≡ Ok tt
  pub took : Took taken taken_now (flat_map text_of acts)
  pub holds : held_now ≡ Some (records ++ flat_map records_of acts)

went_well : (outcome : Outcome) (taken taken_now : Taken) (records : List (List ℕ)) (held_now : Held) (answer : Answer) → IsDone outcome taken taken_now (Some records) held_now answer → answer ≡ Ok tt → WentWell outcome.ends outcome.acts taken taken_now records held_now
went_well outcome taken taken_now records held_now answer it well = by it.ends
  where
    by : IsWhole outcome.ends answer it.left it.text it.records ⊎ BreaksOff answer it.left it.text it.records → WentWell outcome.ends outcome.acts taken taken_now records held_now
    by (inl whole) =
        let acts : outcome.acts ≡ it.done = it.are_acts ∙ ap (λ (left : List Act). it.done ++ left) whole.all ∙ append-nil it.done in
        let all : flat_map text_of it.done ++ it.text ≡ flat_map text_of outcome.acts =
        ap (λ (text : List ℕ). flat_map text_of it.done ++ text) whole.no_more.0 ∙ append-nil (flat_map text_of it.done) ∙ ap (flat_map text_of) (sym acts) in
        let kept : flat_map records_of it.done ++ it.records ≡ flat_map records_of outcome.acts =
        ap (λ (more : List (List ℕ)). flat_map records_of it.done ++ more) whole.no_more.1 ∙ append-nil (flat_map records_of it.done) ∙ ap (flat_map records_of) (sym acts) in
        record {
          ends_well = sym whole.same_answer ∙ well;
          took = subst (Took taken taken_now) all it.took;
          holds = it.kept ∙ ap (λ (more : List (List ℕ)). Some (records ++ more)) kept;
        }
    by (inr broke) =
        let Broke : Answer → Type 0 = λ one. BreaksOff one it.left it.text it.records in
        absurd (subst Broke well broke)

module _ (replies : RepliesAreDoneOrRefuse) (grow : JournalsGrow) (election : Election) where
  -- the journal behind the Done events of calls
  calls_kept : (calls : List Entry) (kept : List Event) (records : List (List ℕ)) → LegalFrom election kept calls → Each election (events_in calls) → IsBegun election records kept → IsBegun election (records ++ flat_map records_of (append_acts (done_events calls))) (kept ++ done_events calls)
  calls_kept [] kept records legal each begun =
      subst (λ (all : List (List ℕ)). IsBegun election all (kept ++ [])) (sym (append-nil records)) (subst (IsBegun election records) (sym (append-nil kept)) begun)
  calls_kept (call ∷ calls) kept records legal each begun = by (is_done call.reply) refl legal.1 (calls_kept calls)
    where
      by : (b : Bool) → is_done call.reply ≡ b → LegalFrom election (kept ++ cond b (call.event ∷ []) []) calls
          → ((kept_then : List Event) (records_then : List (List ℕ)) → LegalFrom election kept_then calls → Each election (events_in calls) → IsBegun election records_then kept_then → IsBegun election (records_then ++ flat_map records_of (append_acts (done_events calls))) (kept_then ++ done_events calls))
          → IsBegun election (records ++ flat_map records_of (append_acts (cond b (call.event ∷ []) [] ++ done_events calls))) (kept ++ (cond b (call.event ∷ []) [] ++ done_events calls))
      by true done legal_then on =
          let more : List (List ℕ) = flat_map records_of (append_acts (done_events calls)) in
          let now : IsBegun election ((records ++ record_of call.event ∷ []) ++ more) ((kept ++ call.event ∷ []) ++ done_events calls) =
          on (kept ++ call.event ∷ []) (records ++ record_of call.event ∷ []) legal_then each.1
          (grow election records kept call.event begun each.0.fits each.0.held (sym legal.0 ∙ replies.done call.reply done)) in
          subst (λ (all : List (List ℕ)). IsBegun election all (kept ++ (call.event ∷ done_events calls))) (append_assoc records (record_of call.event ∷ []) more)
          (subst (IsBegun election ((records ++ record_of call.event ∷ []) ++ more)) (append_assoc kept (call.event ∷ []) (done_events calls)) now)
      by false other legal_then on =
          on kept records (subst (λ (events : List Event). LegalFrom election events calls) (append-nil kept) legal_then) each.1 begun

  no_records : (history : List Entry) (place : ℕ) (more : List Act) → flat_map records_of (history_acts place history ++ more) ≡ flat_map records_of more
  no_records [] place more = refl
  no_records (call ∷ history) place more = no_records history (place + 1) more

  -- where all items were taken, the rest is done, which alone writes and appends
  record AllTaken (files : Files) (word before : ℕ) (words : List ItemWord) (rest : List Item → Outcome) : Type 0 where
    pub items : List Item
    pub taken : items_taken election files word before words ≡ Ok items
    pub ends : (rest items).ends ≡ Ok tt
    pub texts : flat_map text_of (items_outcome election files word before words rest).acts ≡ flat_map text_of (rest items).acts
    pub records : flat_map records_of (items_outcome election files word before words rest).acts ≡ flat_map records_of (rest items).acts

  abbrev next_in : List ItemWord → Files → ℕ → ℕ → (List Item → Outcome) → Item → Outcome
  next_in words files word before rest taken = items_outcome election files (word + 1) (before + possible_of taken) words (λ others. rest (taken ∷ others))

  all_taken : (words : List ItemWord) (files : Files) (word before : ℕ) (rest : List Item → Outcome) → (items_outcome election files word before words rest).ends ≡ Ok tt → AllTaken files word before words rest
  all_taken [] files word before rest well = record { items = []; taken = refl; ends = well; texts = refl; records = refl }
  all_taken (item ∷ words) files word before rest well =
      by (taken_item election word before item (files (name_in item))) refl well (λ taken so. all_taken words files (word + 1) (before + possible_of taken) (λ others. rest (taken ∷ others)) so)
    where
      by : (given : Result Item Halt) → taken_item election word before item (files (name_in item)) ≡ given → (goes_on given (next_in words files word before rest)).ends ≡ Ok tt
          → ((taken : Item) → (next_in words files word before rest taken).ends ≡ Ok tt → AllTaken files (word + 1) (before + possible_of taken) words (λ others. rest (taken ∷ others)))
          → AllTaken files word before (item ∷ words) rest
      by (Err cause) is so on = absurd cc
      by (Ok taken) is so on =
          let all = on taken so in
          record {
            items = taken ∷ all.items;
            taken =
                ap (λ (some : Result Item Halt). some >>= (λ one. items_taken election files (word + 1) (before + possible_of one) words >>= (λ more. Ok (one ∷ more)))) is
                ∙ ap (λ (some : Result (List Item) Halt). some >>= (λ more. Ok (taken ∷ more))) all.taken;
            ends = all.ends;
            texts = ap (λ (some : Result Item Halt). flat_map text_of (goes_on some (next_in words files word before rest)).acts) is ∙ all.texts;
            records = ap (λ (some : Result Item Halt). flat_map records_of (goes_on some (next_in words files word before rest)).acts) is ∙ all.records;
          }

module _ (histories : JournalsAreHistories) (shown : HistoriesAreShown) (replies : RepliesAreDoneOrRefuse) (held : SaidEventsAreHeld) (keepable : SheetEventsAreKeepable) (grow : JournalsGrow) (heads : HeadersBeginJournals) (taken_valid : TakenElectionsAreValid) (name moment device : List ℕ) (words : List ItemWord) (all : All IsItem words) (files : Files) (records : List (List ℕ)) (history : List Entry) (taken taken_now : Taken) (held_now : Held) (of_items : (election : Election) → election_in (files name) ≡ Ok election → IsOfItems election records files words history) where
  module _ (election : Election) (is : election_in (files name) ≡ Ok election) where
    abbrev rest : Journal → List Item → Outcome
    rest journal items = work (end_acts election journal moment device items history)

    -- the records and the texts when all items have ended
    module _ (kept : List Event) (replays : replay_of election records ≡ Ok kept) (items : List Item) where
      abbrev journal : Journal
      journal = record { center = record { election = election; events = kept }; is_new = has_none records }

      abbrev text : List ℕ
      text = flat_map (lines_of_item election) items

      abbrev told : List ℕ
      told = report_of election (kept ++ done_events history) moment device

      abbrev front : List Act
      front = begin_acts journal ++ (append_acts (done_events history) ++ (history_acts 0 history ++ Write text ∷ Write report_line ∷ []))

      acts_are : end_acts election journal moment device items history ≡ front ++ Write told ∷ []
      acts_are =
          let last : List Act = Write told ∷ [] in
          let two : List Act = Write text ∷ Write report_line ∷ [] in
          ap (λ (acts : List Act). begin_acts journal ++ (append_acts (done_events history) ++ acts)) (sym (append_assoc (history_acts 0 history) two last))
          ∙ ap (λ (acts : List Act). begin_acts journal ++ acts) (sym (append_assoc (append_acts (done_events history)) (history_acts 0 history ++ two) last))
          ∙ sym (append_assoc (begin_acts journal) (append_acts (done_events history) ++ (history_acts 0 history ++ two)) last)

      texts_are : flat_map text_of (end_acts election journal moment device items history) ≡ flat_map text_of front ++ told
      texts_are =
          ap (flat_map text_of) acts_are ∙ flat_map-append text_of front (Write told ∷ [])
          ∙ ap (λ (t : List ℕ). flat_map text_of front ++ t) (append-nil told)

      records_are : flat_map records_of (end_acts election journal moment device items history) ≡ flat_map records_of (begin_acts journal) ++ flat_map records_of (append_acts (done_events history))
      records_are =
          let written : List Act = written_acts election (kept ++ done_events history) history text moment device in
          flat_map-append records_of (begin_acts journal) (append_acts (done_events history) ++ written)
          ∙ ap (λ (more : List (List ℕ)). flat_map records_of (begin_acts journal) ++ more)
          (flat_map-append records_of (append_acts (done_events history)) written
          ∙ ap (λ (more : List (List ℕ)). flat_map records_of (append_acts (done_events history)) ++ more) (no_records replies grow election history 0 (Write text ∷ Write report_line ∷ Write told ∷ []))
          ∙ append-nil (flat_map records_of (append_acts (done_events history))))

      reports_so : items_taken election files 4 0 words ≡ Ok items → (acts : List Act) → flat_map text_of acts ≡ flat_map text_of (end_acts election journal moment device items history) → flat_map records_of acts ≡ flat_map records_of (end_acts election journal moment device items history)
          → Took taken taken_now (flat_map text_of acts) → held_now ≡ Some (records ++ flat_map records_of acts) → ReportedWhatIsKept name moment device files taken taken_now held_now
      reports_so given acts texts appended took holds =
          let so : IsHistoryOf election kept items history = of_items election is kept items replays given in
          let valid : IsValid election = taken_valid (files name) election is in
          let read : journal_in election records ≡ Ok journal = ap (journal_read election (has_none records)) replays in
          let each : Each election (events_in history) = each_mixed election (events_in history) (map (events_of election) items) so.interleaved (items_each election held keepable valid words files 4 0 items all given) in
          let begun : IsBegun election ((records ++ flat_map records_of (begin_acts journal)) ++ flat_map records_of (append_acts (done_events history))) (kept ++ done_events history) =
          calls_kept replies grow election history kept (records ++ flat_map records_of (begin_acts journal)) (legal_from election history kept so.legal.replies) each (heads election records journal read) in
          record {
            election = election;
            is_read = is;
            records = (records ++ flat_map records_of (begin_acts journal)) ++ flat_map records_of (append_acts (done_events history));
            holds =
                holds
                ∙ ap (λ (more : List (List ℕ)). Some (records ++ more)) (appended ∙ records_are)
                ∙ ap Some (sym (append_assoc records (flat_map records_of (begin_acts journal)) (flat_map records_of (append_acts (done_events history)))));
            events = kept ++ done_events history;
            are_kept = begun.replays;
            before = flat_map text_of front;
            report = subst (Took taken taken_now) (texts ∙ texts_are) took;
            history = histories election
                ((records ++ flat_map records_of (begin_acts journal)) ++ flat_map records_of (append_acts (done_events history)))
                (kept ++ done_events history) begun.replays;
            shows = shown election (kept ++ done_events history)
                (histories election
                ((records ++ flat_map records_of (begin_acts journal)) ++ flat_map records_of (append_acts (done_events history)))
                (kept ++ done_events history) begun.replays);
          }

    -- the journal was read
    read_so : (replayed : Result (List Event) (ℕ × JournalStop)) → replay_of election records ≡ replayed → WentWell (goes_on (journal_read election (has_none records) replayed) (journal_outcome election moment device words files history)).ends (goes_on (journal_read election (has_none records) replayed) (journal_outcome election moment device words files history)).acts taken taken_now records held_now → ReportedWhatIsKept name moment device files taken taken_now held_now
    read_so (Err stopped) replays well = let never = well.ends_well in absurd cc
    read_so (Ok kept) replays well =
        let journal : Journal = record { center = record { election = election; events = kept }; is_new = has_none records } in
        let it = all_taken replies grow election words files 4 0 (rest journal) well.ends_well in
        reports_so kept replays it.items it.taken (items_outcome election files 4 0 words (rest journal)).acts it.texts it.records well.took well.holds

    planned_so : (planned : Result (List CardPlan) Halt) → WentWell (goes_on planned (λ plans. once_read election records (journal_outcome election moment device words files history))).ends (goes_on planned (λ plans. once_read election records (journal_outcome election moment device words files history))).acts taken taken_now records held_now → ReportedWhatIsKept name moment device files taken taken_now held_now
    planned_so (Err cause) well = let never = well.ends_well in absurd cc
    planned_so (Ok plans) well = read_so (replay_of election records) refl (record { ends_well = well.ends_well; took = well.took; holds = well.holds })

  pub given_so : (given : Result Election Halt) → election_in (files name) ≡ given
      → WentWell (goes_on given (λ some. once_planned some (once_read some records (journal_outcome some moment device words files history)))).ends (goes_on given (λ some. once_planned some (once_read some records (journal_outcome some moment device words files history)))).acts taken taken_now records held_now → ReportedWhatIsKept name moment device files taken taken_now held_now
  given_so (Err cause) is well = let never = well.ends_well in absurd cc
  given_so (Ok election) is well = planned_so election is (plans_in election) well

pub reports : JournalsAreHistories → HistoriesAreShown → TakenElectionsAreValid → RepliesAreDoneOrRefuse → SaidEventsAreHeld → SheetEventsAreKeepable → JournalsGrow → HeadersBeginJournals → CenterReportsWhatIsKept
reports histories shown taken_valid replies held keepable grow heads name moment device words files records history taken taken_now held_now answer are of_items done well =
    let it = went_well (center_outcome name moment device words files records history) taken taken_now records held_now answer done well in
    given_so histories shown replies held keepable grow heads taken_valid name moment device words are.are_items files records history taken taken_now held_now of_items (election_in (files name)) refl
    (record { ends_well = it.ends_well; took = it.took; holds = it.holds })
