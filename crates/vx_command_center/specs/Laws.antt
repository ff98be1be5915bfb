-- What `center` leaves of a journal, and what it reports of it.
use Rattle.std.specs.Prelude.{◌≡◌, ℕ, List, ◌++◌, map, slice_get, Some, Ok, Err}
use Rattle.std.specs.List.{flat_map}
use Rattle.vx_io.specs.Outside.{Files, Took}
use Rattle.vx_election_model.specs.declared.election.Election.{Election}
use Rattle.vx_events.specs.declared.event.Event.{Event}
use Rattle.vx_center.specs.Histories.{IsHistory}
use Rattle.vx_center.specs.Shown.{ShowsWhatWasKept}
use Rattle.vx_layout.specs.declared.plan.CardPlan.{CardPlan}
use Rattle.vx_records.specs.Records.{record_of}
use Rattle.vx_shared.specs.declared.history.Entry.{Entry}
use Rattle.vx_shared.specs.Legal.{done_events}
use Rattle.vx_words.specs.declared.command.ItemWord.{ItemWord}
use Rattle.vx_words.specs.declared.command.ItemWord.TheVariants.{Scan as ScanWord}
use Rattle.vx_words.specs.Items.{AreItemWords}
use Rattle.vx_cvr.specs.Report.{report_of}
use Rattle.vx_command.specs.declared.halt.Halt.TheVariants.{NoMemory}
use Rattle.vx_command.specs.Acts.{Answer, records_of}
use Rattle.vx_command.specs.Done.{Taken, Held, IsDone}
use Rattle.vx_command.specs.Elections.{election_in, plans_in}
use Rattle.vx_journal.specs.declared.journal.Journal.{Journal}
use Rattle.vx_journal.specs.Keeping.{begin_acts, journal_in}
use Rattle.vx_journal.specs.Laws.{IsJournal, StaysJournal}
use Rattle.vx_journal.specs.Replay.{replay_of}
use Rattle.vx_command_center.specs.declared.item.Item.{Item}
use Rattle.vx_command_center.specs.declared.item.Item.TheVariants.{Scan}
use Rattle.vx_command_center.specs.Histories.{IsHistoryOf}
use Rattle.vx_command_center.specs.Outcome.{center_outcome, items_taken}
use Rattle.vx_command_center.specs.Runs.{Centers}

-- where an election's journal replays and its items can be taken, the history is theirs
abbrev pub IsOfItems : Election → List (List ℕ) → Files → List ItemWord → List Entry → Type 0
IsOfItems election records files words history =
    (kept : List Event) (items : List Item) → replay_of election records ≡ Ok kept
    → items_taken election files 4 0 words ≡ Ok items → IsHistoryOf election kept items history

-- a journal stays one behind each record that `center` appends, by a history of its items
abbrev pub CenterKeepsJournals : Type 0
CenterKeepsJournals =
    (name moment device : List ℕ) (words : List ItemWord) (files : Files) (records : List (List ℕ))
    (history : List Entry)
    (election : Election)
    → AreItemWords words → election_in (files name) ≡ Ok election → IsJournal election records
    → IsOfItems election records files words history
    → StaysJournal election records (center_outcome name moment device words files records history).acts

-- The election under a name was read, the keeper holds a journal of it, and the last text that was written is the report
-- of exactly the events that the journal keeps. These are a history of the counting machine, and the report's rows show
-- them, as those that `export` writes do.
pub record ReportedWhatIsKept (name moment device : List ℕ) (files : Files) (taken taken_now : Taken)
    (held_now : Held) : Type 0 where
  pub election : Election
  pub is_read : election_in (files name) ≡ Ok election
  pub records : List (List ℕ)
  pub holds : held_now ≡ Some records
  pub events : List Event
  pub are_kept : replay_of election records ≡ Ok events
  pub before : List ℕ
  pub report : Took taken taken_now (before ++ report_of election events moment device)
  pub history : IsHistory election events
  pub shows : ShowsWhatWasKept election events

-- so it is where `center` ended well, by a history of its items, whatever stands of its acts
abbrev pub CenterReportsWhatIsKept : Type 0
CenterReportsWhatIsKept =
    (name moment device : List ℕ) (words : List ItemWord) (files : Files) (records : List (List ℕ))
    (history : List Entry)
    (taken taken_now : Taken) (held_now : Held) (answer : Answer)
    → AreItemWords words
    → ((election : Election) → election_in (files name) ≡ Ok election
    → IsOfItems election records files words history)
    → IsDone (center_outcome name moment device words files records history)
    taken taken_now (Some records) held_now answer
    → answer ≡ Ok tt → ReportedWhatIsKept name moment device files taken taken_now held_now

-- memory may run out before `center` has begun: then none of its acts is done, by some history of its items
abbrev pub CentersMayNotBegin : Type 0
CentersMayNotBegin =
    (name moment device : List ℕ) (words : List ItemWord) (files : Files) (records : List (List ℕ)) (taken : Taken) (held : Held)
    → Centers name moment device words files records taken taken held held (Err NoMemory)

-- the records of a `center` whose election and journal can be read, whose cards can be planned and whose items can be
-- taken: the header where no record was there, and then those of the Done events of its history, in order
abbrev pub CentersKeepTheirHistory : Type 0
CentersKeepTheirHistory =
    (name moment device : List ℕ) (words : List ItemWord) (files : Files) (records : List (List ℕ)) (history : List Entry)
    (election : Election) (plans : List CardPlan) (journal : Journal) (items : List Item)
    → election_in (files name) ≡ Ok election → plans_in election ≡ Ok plans → journal_in election records ≡ Ok journal
    → items_taken election files 4 0 words ≡ Ok items
    → flat_map records_of (center_outcome name moment device words files records history).acts
    ≡ flat_map records_of (begin_acts journal) ++ map record_of (done_events history)

-- the item of a word that names a scan is that scan, of the bytes of its file, in the word's place
abbrev pub ScansAreItems : Type 0
ScansAreItems =
    (election : Election) (files : Files) (words : List ItemWord) (items : List Item) (place : ℕ)
    (batch file bytes : List ℕ)
    → items_taken election files 4 0 words ≡ Ok items → slice_get words place ≡ Some (ScanWord batch file)
    → files file ≡ Some bytes → (sheets : ℕ) × (slice_get items place ≡ Some (Scan batch bytes sheets))
