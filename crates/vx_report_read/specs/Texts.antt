-- Reports whose bytes are UTF-8: those of what an election office reads and keeps.
use Rattle.std.specs.Prelude.{◌≡◌, ℕ, true, All, List, Option, Ok, Some, slice_get}
use Rattle.std.specs.Str.{IsUtf8, is_utf8}
use Rattle.vx_election_model.specs.declared.choice.Choice.{Choice}
use Rattle.vx_election_model.specs.declared.contest.Contest.{Contest}
use Rattle.vx_election_model.specs.declared.election.Election.{Election}
use Rattle.vx_election_model.specs.declared.named.Named.{Named}
use Rattle.vx_events.specs.declared.decision.Decision.TheVariants.{NameWriteIn}
use Rattle.vx_events.specs.declared.decision.WriteInName.TheVariants.{Words}
use Rattle.vx_events.specs.declared.event.Event.{Event}
use Rattle.vx_events.specs.declared.event.Event.TheVariants.{Decide}
use Rattle.vx_events.specs.declared.key.Key.{Key}
use Rattle.vx_cvr.specs.Report.{report_of}
use Rattle.vx_command.specs.Elections.{election_in}
use Rattle.vx_journal.specs.Replay.{replay_of}
use Rattle.vx_words.specs.Devices.{device_of}
use Rattle.vx_words.specs.Moments.{is_moment}

-- the name and the label of a choice are UTF-8
abbrev pub IsUtf8Choice : Choice → Type 0
IsUtf8Choice choice = IsUtf8 choice.name × IsUtf8 choice.label

-- the title of a contest is, and its choices are
abbrev pub IsUtf8Contest : Contest → Type 0
IsUtf8Contest contest = IsUtf8 contest.title × All IsUtf8Choice contest.choices

-- the texts of an election that a report has and that aren't ids
pub record IsUtf8Election (election : Election) : Type 0 where
  pub title : IsUtf8 election.title
  pub precincts : All (λ (named : Named). IsUtf8 named.name) election.precincts
  pub contests : All IsUtf8Contest election.contests

-- the words that were written into slots of a history
abbrev pub AreUtf8Names : List Event → Type 0
AreUtf8Names kept =
    (place station contest slot : ℕ) (key : Key) (words : List ℕ)
    → slice_get kept place ≡ Some (Decide station key contest (NameWriteIn slot (Words words))) → IsUtf8 words

-- an election that a command takes, with the events that some records keep, which are a journal of it
pub record AreOfJournal (election : Election) (kept : List Event) : Type 0 where
  pub file : Option (List ℕ)
  pub is_taken : election_in file ≡ Ok election
  pub records : List (List ℕ)
  pub are_kept : replay_of election records ≡ Ok kept

-- their texts are
pub record AreUtf8 (election : Election) (kept : List Event) : Type 0 where
  pub texts : IsUtf8Election election
  pub names : AreUtf8Names kept

abbrev pub JournalsAreUtf8 : Type 0
JournalsAreUtf8 = (election : Election) (kept : List Event) → AreOfJournal election kept → AreUtf8 election kept

-- a moment, and a device that a word names
pub record AreOfWords (moment device : List ℕ) : Type 0 where
  pub is_moment : is_moment moment ≡ true
  pub word : List ℕ
  pub is_named : device_of word ≡ Some device

-- what `export` writes of a journal is
abbrev pub ReportsAreUtf8 : Type 0
ReportsAreUtf8 =
    (election : Election) (kept : List Event) (moment device : List ℕ) → AreOfJournal election kept → AreOfWords moment device
    → is_utf8 (report_of election kept moment device) ≡ true
