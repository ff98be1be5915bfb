-- What runs of `center` come to: there is a history of its items, by which the acts are done.
use Rattle.std.specs.Prelude.{◌≡◌, ℕ, Bool, true, false, List, Result, Ok, Err}
use Rattle.vx_io.specs.Outside.{Files}
use Rattle.vx_election_model.specs.declared.election.Election.{Election}
use Rattle.vx_events.specs.declared.event.Event.{Event}
use Rattle.vx_shared.specs.declared.history.Entry.{Entry}
use Rattle.vx_words.specs.declared.command.ItemWord.{ItemWord}
use Rattle.vx_command.specs.declared.halt.Halt.{Halt}
use Rattle.vx_command.specs.declared.halt.Halt.TheVariants.{WriteFault, KeeperFault, NoMemory}
use Rattle.vx_command.specs.Acts.{Answer, work}
use Rattle.vx_command.specs.Done.{Taken, Held, IsDone}
use Rattle.vx_command.specs.Elections.{election_in, once_planned}
use Rattle.vx_journal.specs.declared.journal.Journal.{Journal}
use Rattle.vx_journal.specs.Replay.{replay_of}
use Rattle.vx_journal.specs.Steps.{once_read}
use Rattle.vx_command_center.specs.declared.item.Item.{Item}
use Rattle.vx_command_center.specs.Histories.{IsHistoryOf}
use Rattle.vx_command_center.specs.Outcome.{center_outcome, end_acts, items_taken, journal_outcome}

-- `center` takes and reads all before it writes or appends: so it answers with a refusal before it does either. The sink
-- and the keeper may fail later, and memory may run out.
abbrev pub is_refusal : {A : Type 0} → Result A Halt → Bool
is_refusal (Ok done) = false
is_refusal (Err WriteFault) = false
is_refusal (Err KeeperFault) = false
is_refusal (Err NoMemory) = false
is_refusal (Err halt) = true

-- items that were taken are done behind a journal that was read: the history is theirs, and by it the acts are done
-- up to some place
pub record CentersItems (election : Election) (journal : Journal) (moment device : List ℕ) (items : List Item)
    (taken taken_now : Taken) (held held_now : Held) (answer : Answer) : Type 0 where
  pub history : List Entry
  pub of_items : IsHistoryOf election journal.center.events items history
  pub done : IsDone (work (end_acts election journal moment device items history)) taken taken_now held held_now answer

-- so of the items that words name, where they can be taken
pub record CentersJournal (election : Election) (journal : Journal) (moment device : List ℕ) (words : List ItemWord)
    (files : Files) (taken taken_now : Taken) (held held_now : Held) (answer : Answer) : Type 0 where
  pub history : List Entry
  pub of_items : (items : List Item) → items_taken election files 4 0 words ≡ Ok items
      → IsHistoryOf election journal.center.events items history
  pub done : IsDone (journal_outcome election moment device words files history journal)
      taken taken_now held held_now answer

-- so behind the records of an election's journal, where it replays
pub record CentersSet (election : Election) (moment device : List ℕ) (words : List ItemWord) (files : Files)
    (records : List (List ℕ)) (taken taken_now : Taken) (held held_now : Held) (answer : Answer) : Type 0 where
  pub history : List Entry
  pub of_items : (kept : List Event) (items : List Item) → replay_of election records ≡ Ok kept
      → items_taken election files 4 0 words ≡ Ok items → IsHistoryOf election kept items history
  pub done : IsDone (once_read election records (journal_outcome election moment device words files history))
      taken taken_now held held_now answer

-- the same before the cards of the election are planned
pub record CentersPlanned (election : Election) (moment device : List ℕ) (words : List ItemWord) (files : Files)
    (records : List (List ℕ)) (taken taken_now : Taken) (held held_now : Held) (answer : Answer) : Type 0 where
  pub history : List Entry
  pub of_items : (kept : List Event) (items : List Item) → replay_of election records ≡ Ok kept
      → items_taken election files 4 0 words ≡ Ok items → IsHistoryOf election kept items history
  pub done : IsDone (once_planned election (once_read election records
      (journal_outcome election moment device words files history))) taken taken_now held held_now answer

-- a run of `center`: where its election can be read, its journal replays and its items can be taken, the history is
-- theirs; and by it the acts are done up to some place
pub record Centers (name moment device : List ℕ) (words : List ItemWord) (files : Files) (records : List (List ℕ))
    (taken taken_now : Taken) (held held_now : Held) (answer : Answer) : Type 0 where
  pub history : List Entry
  pub of_items : (election : Election) (kept : List Event) (items : List Item)
      → election_in (files name) ≡ Ok election → replay_of election records ≡ Ok kept → items_taken election files 4 0 words ≡ Ok items
      → IsHistoryOf election kept items history
  pub done : IsDone (center_outcome name moment device words files records history) taken taken_now held held_now answer
