-- A journal stays one while the Done events of a history are appended to it.
use Rattle.std.proofs.Common.{◌≡◌, ℕ, suc, ◌+◌, Bool, true, false, cond, List, [], ◌∷◌, ◌++◌, map, take, Some, Result, Ok, Err, refl, sym, ap, subst, ◌∙◌, append_assoc, append-nil}
use Rattle.std.specs.Prelude.{All, slice_get}
use Rattle.std.specs.List.{flat_map}
use Rattle.vx_base.specs.Results.{◌>>=◌}
use Rattle.vx_base.proofs.Results.{is-ok_from, ok-is}
use Rattle.vx_io.specs.Outside.{Files}
use Rattle.vx_election_model.specs.declared.election.Election.{Election}
use Rattle.vx_election_model.specs.Valid.{IsValid}
use Rattle.vx_events.specs.declared.event.Event.{Event}
use Rattle.vx_layout.specs.declared.plan.CardPlan.{CardPlan}
use Rattle.vx_center.specs.Laws.{RepliesAreDoneOrRefuse}
use Rattle.vx_center.specs.Replies.{is_done, reply_of}
use Rattle.vx_records.specs.Records.{header_of, record_of}
use Rattle.vx_script.specs.Laws.{SaidEventsAreHeld}
use Rattle.vx_sheet.specs.Shows.{SheetEventsAreKeepable}
use Rattle.vx_shared.specs.declared.history.Entry.{Entry}
use Rattle.vx_shared.specs.Legal.{IsLegal, done_events, done_of, events_in}
use Rattle.vx_words.specs.declared.command.ItemWord.{ItemWord}
use Rattle.vx_words.specs.Items.{IsItem}
use Rattle.vx_command.specs.declared.halt.Halt.{Halt}
use Rattle.vx_command.specs.Acts.{Act, Append, Outcome, goes_on, records_of, work}
use Rattle.vx_command.specs.Elections.{once_planned, plans_in}
use Rattle.vx_command.specs.Laws.{TakenElectionsAreValid}
use Rattle.vx_journal.specs.declared.journal.Journal.{Journal}
use Rattle.vx_journal.specs.Keeping.{has_none, journal_in, journal_read}
use Rattle.vx_journal.specs.Laws.{BegunAreJournals, HeadersBeginJournals, IsBegun, IsJournal, JournalsGrow, StaysJournal}
use Rattle.vx_journal.specs.Replay.{replay_of}
use Rattle.vx_journal.specs.Steps.{once_read}
use Rattle.vx_command_center.specs.declared.item.Item.{Item}
use Rattle.vx_command_center.specs.Histories.{IsHistoryOf}
use Rattle.vx_command_center.specs.Items.{events_of, lines_of_item, possible_of}
use Rattle.vx_command_center.specs.Laws.{CenterKeepsJournals, IsOfItems}
use Rattle.vx_command_center.specs.Outcome.{append_acts, end_acts, history_acts, items_outcome, items_taken, journal_outcome, name_in, taken_item, written_acts}
use Rattle.vx_command_center.proofs.Keepable.{Each, each_mixed, items_each}

-- a legal history, call after call
abbrev pub LegalFrom : Election → List Event → List Entry → Type 0
LegalFrom election kept [] = Unit {0}
LegalFrom election kept (call ∷ calls) = (call.reply ≡ reply_of election kept call.event) × LegalFrom election (kept ++ done_of call) calls

pub legal_from : (election : Election) (calls : List Entry) (kept : List Event) → ((place : ℕ) (call : Entry) → slice_get calls place ≡ Some call → call.reply ≡ reply_of election (kept ++ done_events (take place calls)) call.event) → LegalFrom election kept calls
legal_from election [] kept legal = tt
legal_from election (call ∷ calls) kept legal = (
  legal 0 call refl ∙ ap (λ (events : List Event). reply_of election events call.event) (append-nil kept),
  legal_from election calls (kept ++ done_of call)
      (λ place one at. legal (suc place) one at ∙ ap (λ (events : List Event). reply_of election events one.event) (sym (append_assoc kept (done_of call) (done_events (take place calls))))),
)

module _ (replies : RepliesAreDoneOrRefuse) (begun_is : BegunAreJournals) (grow : JournalsGrow) (election : Election) where
  -- the Done events of calls are appended
  calls_stay : (calls : List Entry) (kept : List Event) (records : List (List ℕ)) (more : List Act) → LegalFrom election kept calls → Each election (events_in calls) → IsBegun election records kept
      → ((now : List (List ℕ)) → IsBegun election now (kept ++ done_events calls) → StaysJournal election now more)
      → StaysJournal election records (append_acts (done_events calls) ++ more)
  calls_stay [] kept records more legal each begun further = further records (subst (IsBegun election records) (sym (append-nil kept)) begun)
  calls_stay (call ∷ calls) kept records more legal each begun further = by (is_done call.reply) refl legal.1 further (calls_stay calls)
    where
      by : (b : Bool) → is_done call.reply ≡ b → LegalFrom election (kept ++ cond b (call.event ∷ []) []) calls
          → ((now : List (List ℕ)) → IsBegun election now (kept ++ (cond b (call.event ∷ []) [] ++ done_events calls)) → StaysJournal election now more)
          → ((kept_then : List Event) (records_then : List (List ℕ)) (more_then : List Act) → LegalFrom election kept_then calls → Each election (events_in calls) → IsBegun election records_then kept_then
          → ((now : List (List ℕ)) → IsBegun election now (kept_then ++ done_events calls) → StaysJournal election now more_then)
          → StaysJournal election records_then (append_acts (done_events calls) ++ more_then))
          → StaysJournal election records (append_acts (cond b (call.event ∷ []) [] ++ done_events calls) ++ more)
      by true done legal_then go on = (
        begun_is election records kept begun,
        on (kept ++ call.event ∷ []) (records ++ record_of call.event ∷ []) more legal_then each.1
            (grow election records kept call.event begun each.0.fits each.0.held (sym legal.0 ∙ replies.done call.reply done))
            (λ now so. go now (subst (IsBegun election now) (append_assoc kept (call.event ∷ []) (done_events calls)) so)),
      )
      by false other legal_then go on =
          on kept records more (subst (λ (events : List Event). LegalFrom election events calls) (append-nil kept) legal_then) each.1 begun go

  -- lines are written
  writes_stay : (history : List Entry) (place : ℕ) (records : List (List ℕ)) (more : List Act) → StaysJournal election records more → StaysJournal election records (history_acts place history ++ more)
  writes_stay [] place records more stays = stays
  writes_stay (call ∷ history) place records more stays = writes_stay history (place + 1) records more stays

  -- the journal is begun
  begin_stays : (new : Bool) (events : List Event) (more : List Act) (records : List (List ℕ)) → IsJournal election records → (IsBegun election (records ++ flat_map records_of (cond new (Append (header_of election) ∷ []) [])) events → StaysJournal election (records ++ flat_map records_of (cond new (Append (header_of election) ∷ []) [])) more) → IsBegun election (records ++ flat_map records_of (cond new (Append (header_of election) ∷ []) [])) events → StaysJournal election records (cond new (Append (header_of election) ∷ []) [] ++ more)
  begin_stays true events more records now further begun = (now, further begun)
  begin_stays false events more records now further begun =
      let Stays : List (List ℕ) → Type 0 = λ some. StaysJournal election some more in
      subst Stays (append-nil records) (further begun)

  -- all that is done when the items have ended
  end_stays : HeadersBeginJournals → (moment device : List ℕ) (records : List (List ℕ)) (journal : Journal) (items : List Item) (history : List Entry) → journal_in election records ≡ Ok journal → journal.center.election ≡ election → IsJournal election records
      → IsLegal (record { election = election; events = journal.center.events }) history → Each election (events_in history)
      → StaysJournal election records (end_acts election journal moment device items history)
  end_stays heads moment device records journal items history read same now legal each =
      let text : List ℕ = flat_map (lines_of_item election) items in
      let written : List Act = written_acts election (journal.center.events ++ done_events history) history text moment device in
      let Of : Election → Type 0 = λ e. StaysJournal election records (cond journal.is_new (Append (header_of e) ∷ []) [] ++ (append_acts (done_events history) ++ written)) in
      let head : IsBegun election (records ++ flat_map records_of (cond journal.is_new (Append (header_of election) ∷ []) [])) journal.center.events =
      let Head : Election → Type 0 = λ e. IsBegun election (records ++ flat_map records_of (cond journal.is_new (Append (header_of e) ∷ []) [])) journal.center.events in
      subst Head same (heads election records journal read) in
      subst Of (sym same)
      (begin_stays journal.is_new journal.center.events (append_acts (done_events history) ++ written) records now
      (λ begun. calls_stay history journal.center.events (records ++ flat_map records_of (cond journal.is_new (Append (header_of election) ∷ []) [])) written (legal_from election history journal.center.events legal.replies) each begun
      (λ then so. writes_stay history 0 then _ (begun_is election then (journal.center.events ++ done_events history) so)))
      head)

  -- items are taken
  given_stays : (given : Result Item Halt) (rest : Item → Outcome) (records : List (List ℕ)) → IsJournal election records → ((taken : Item) → given ≡ Ok taken → StaysJournal election records (rest taken).acts) → StaysJournal election records (goes_on given rest).acts
  given_stays (Err cause) rest records now further = now
  given_stays (Ok taken) rest records now further = further taken refl

  items_stay : (words : List ItemWord) (files : Files) (word before : ℕ) (rest : List Item → Outcome) (records : List (List ℕ)) → IsJournal election records → ((items : List Item) → items_taken election files word before words ≡ Ok items → StaysJournal election records (rest items).acts) → StaysJournal election records (items_outcome election files word before words rest).acts
  items_stay [] files word before rest records now further = further [] refl
  items_stay (item ∷ words) files word before rest records now further =
      given_stays (taken_item election word before item (files (name_in item)))
      (λ taken. items_outcome election files (word + 1) (before + possible_of taken) words (λ others. rest (taken ∷ others))) records now
      (λ taken given. items_stay words files (word + 1) (before + possible_of taken) (λ others. rest (taken ∷ others)) records now
      (λ others are. further (taken ∷ others)
      (ap (λ (some : Result Item Halt). some >>= (λ one. items_taken election files (word + 1) (before + possible_of one) words >>= (λ more. Ok (one ∷ more)))) given
      ∙ ap (λ (some : Result (List Item) Halt). some >>= (λ more. Ok (taken ∷ more))) are)))

  module _ (held : SaidEventsAreHeld) (keepable : SheetEventsAreKeepable) (heads : HeadersBeginJournals) (moment device : List ℕ) (words : List ItemWord) (all : All IsItem words) (files : Files) (records : List (List ℕ)) (history : List Entry) (valid : IsValid election) (of_items : IsOfItems election records files words history) where
    read_stays : (kept : List Event) → replay_of election records ≡ Ok kept → StaysJournal election records (once_read election records (journal_outcome election moment device words files history)).acts
    read_stays kept is =
        let journal : Journal = record { center = record { election = election; events = kept }; is_new = has_none records } in
        let read : journal_in election records ≡ Ok journal = ap (journal_read election (has_none records)) is in
        let now : IsJournal election records = is-ok_from (replay_of election records) kept is in
        let Stays : Result Journal Halt → Type 0 = λ given. StaysJournal election records (goes_on given (journal_outcome election moment device words files history)).acts in
        subst Stays (sym read)
        (items_stay words files 4 0 (λ items. work (end_acts election journal moment device items history)) records now
        (λ items given.
        let so : IsHistoryOf election kept items history = of_items kept items is given in
        end_stays heads moment device records journal items history read refl now so.legal
        (each_mixed election (events_in history) (map (events_of election) items) so.interleaved (items_each election held keepable valid words files 4 0 items all given))))

    pub plans_stay : (planned : Result (List CardPlan) Halt) → IsJournal election records → StaysJournal election records (goes_on planned (λ plans. once_read election records (journal_outcome election moment device words files history))).acts
    plans_stay (Err cause) now = now
    plans_stay (Ok plans) now = let read = ok-is (replay_of election records) now in read_stays read.0 read.1

-- `center` keeps a journal
pub stays : TakenElectionsAreValid → RepliesAreDoneOrRefuse → BegunAreJournals → SaidEventsAreHeld → SheetEventsAreKeepable → JournalsGrow → HeadersBeginJournals → CenterKeepsJournals
stays taken_valid replies begun_is held keepable grow heads name moment device words files records history election are is journal of_items =
    let valid = taken_valid (files name) election is in
    let Stays : Result Election Halt → Type 0 = λ given. StaysJournal election records (goes_on given (λ some. once_planned some (once_read some records (journal_outcome some moment device words files history)))).acts in
    subst Stays (sym is)
    (plans_stay replies begun_is grow election held keepable heads moment device words are.are_items files records history valid of_items (plans_in election) journal)
