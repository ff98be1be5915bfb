-- What holds of the page for those who hold the paper.
use Rattle.std.specs.Prelude.{◌≡◌, ℕ, List, map, slice_get, length, Ok, Some, IsSortedByKey}
use Rattle.vx_io.specs.Outside.{Files}
use Rattle.vx_election_model.specs.declared.election.Election.{Election}
use Rattle.vx_events.specs.declared.event.Event.{Event}
use Rattle.vx_center.specs.Exports.{key_order}
use Rattle.vx_center.specs.Histories.{IsHistory}
use Rattle.vx_center.specs.Sheets.{sheets_in}
use Rattle.vx_command.specs.Elections.{election_in}
use Rattle.vx_journal.specs.declared.journal.Journal.{Journal}
use Rattle.vx_journal.specs.Keeping.{journal_in}
use Rattle.vx_tally.specs.declared.report.CvrRecord.{CvrRecord}
use Rattle.vx_audit.specs.Sample.{sample_of}
use Rattle.vx_cvr.specs.Names.{sheet_name}
use Rattle.vx_markup.specs.Laws.{HasNoMarkup}
use Rattle.vx_results.specs.Report.{report_of_events}
use Rattle.vx_board.specs.Ballots.{Ballot, added_ballot, ballots_of, drawn_of}
use Rattle.vx_board.specs.Data.{board_text, data_text}
use Rattle.vx_board.specs.Outcome.{board_outcome}

-- two lists of kept events added ballots under the same keys and of the same cards, in the same order
abbrev pub HaveSameBallots : List Event → List Event → Type 0
HaveSameBallots kept other = map added_ballot (sheets_in kept) ≡ map added_ballot (sheets_in other)

-- The page is blind: of such lists the pages are the same bytes, whatever was marked, read and decided; and of two journals of one
-- election that keep such lists, `board` does the same and ends the same.
pub record BoardIsBlind : Type 0 where
  pub pages :
      (election : Election) (kept other : List Event) (seed : List ℕ) (size : ℕ) → HaveSameBallots kept other
      → board_text election kept seed size ≡ board_text election other seed size
  pub runs :
      (election : Election) (name seed : List ℕ) (size : ℕ) (files : Files) (records others : List (List ℕ))
      (one other : Journal) → election_in (files name) ≡ Ok election
      → journal_in election records ≡ Ok one → journal_in election others ≡ Ok other
      → HaveSameBallots one.center.events other.center.events
      → board_outcome name seed size files records ≡ board_outcome name seed size files others

-- no byte that markup is made of stands in the data, whatever the names are
abbrev pub DataIsNoMarkup : Type 0
DataIsNoMarkup =
    (election : Election) (ballots : List Ballot) (seed : List ℕ) (size : ℕ)
    → HasNoMarkup (data_text election ballots seed size)

-- what a report names a record, and the name of a ballot
abbrev pub record_name : CvrRecord → List ℕ
record_name one = one.unique

abbrev pub ballot_name : Ballot → List ℕ
ballot_name ballot = sheet_name ballot.key

-- no two places of ballots have one key
abbrev pub AreEachOnce : List Ballot → Type 0
AreEachOnce ballots =
    (place further : ℕ) (one other : Ballot)
    → slice_get ballots place ≡ Some one → slice_get ballots further ≡ Some other → one.key ≡ other.key
    → place ≡ further

-- The ballots that are drawn are at the places that `sample` draws of what the report of the same events says, by the same seed
-- and size, and have the names of the records there; and they stand in the order of their keys, each key once.
pub record AreTheSample (election : Election) (kept : List Event) (seed : List ℕ) (size : ℕ) : Type 0 where
  pub places :
      drawn_of seed size (ballots_of election kept) ≡ sample_of seed size (length (report_of_events election kept).records)
  pub names : map record_name (report_of_events election kept).records ≡ map ballot_name (ballots_of election kept)
  pub sorted : IsSortedByKey (λ (ballot : Ballot). ballot.key) key_order (ballots_of election kept)
  pub once : AreEachOnce (ballots_of election kept)

abbrev pub BallotsAreTheSample : Type 0
BallotsAreTheSample =
    (election : Election) (kept : List Event) (seed : List ℕ) (size : ℕ)
    → IsHistory election kept → AreTheSample election kept seed size
