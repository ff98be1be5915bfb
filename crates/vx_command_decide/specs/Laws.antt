-- What `decide` leaves of a journal.
use Rattle.std.specs.Prelude.{◌≡◌, ℕ, List, Ok}
use Rattle.vx_io.specs.Outside.{Files}
use Rattle.vx_election_model.specs.declared.election.Election.{Election}
use Rattle.vx_command.specs.Elections.{election_in}
use Rattle.vx_journal.specs.Laws.{IsJournal, StaysJournal}
use Rattle.vx_command_decide.specs.Outcome.{decide_outcome}

-- a journal stays one behind each record that `decide` appends
abbrev pub DecideKeepsJournals : Type 0
DecideKeepsJournals =
    (name script : List ℕ) (files : Files) (records : List (List ℕ)) (election : Election)
    → election_in (files name) ≡ Ok election → IsJournal election records
    → StaysJournal election records (decide_outcome name script files records).acts
