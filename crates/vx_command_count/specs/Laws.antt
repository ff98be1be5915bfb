-- What `count` leaves of a journal.
use Rattle.std.specs.Prelude.{◌≡◌, ℕ, true, false, List, Ok}
use Rattle.vx_io.specs.Outside.{Files}
use Rattle.vx_election_model.specs.declared.election.Election.{Election}
use Rattle.vx_events.specs.declared.event.Event.{Event}
use Rattle.vx_events.specs.Fits.{is_batch}
use Rattle.vx_layout.specs.declared.plan.CardPlan.{CardPlan}
use Rattle.vx_command.specs.Elections.{election_in, plans_in}
use Rattle.vx_command.specs.Texts.{broke_off}
use Rattle.vx_journal.specs.Laws.{IsJournal, StaysJournal}
use Rattle.vx_journal.specs.Replay.{replay_of}
use Rattle.vx_command_count.specs.Outcome.{count_outcome}

-- a journal stays one behind each record that `count` appends
abbrev pub CountKeepsJournals : Type 0
CountKeepsJournals =
    (name batch : List ℕ) (scans : List (List ℕ)) (files : Files) (records : List (List ℕ)) (election : Election)
    → is_batch batch ≡ true → election_in (files name) ≡ Ok election → IsJournal election records
    → StaysJournal election records (count_outcome name batch scans files records).acts

-- a `count` whose election can be read, whose cards can be planned and whose journal replays has an end that is no
-- device's failure
abbrev pub CountsEndWell : Type 0
CountsEndWell =
    (name batch : List ℕ) (scans : List (List ℕ)) (files : Files) (records : List (List ℕ)) (election : Election)
    (plans : List CardPlan) (events : List Event)
    → election_in (files name) ≡ Ok election → plans_in election ≡ Ok plans → replay_of election records ≡ Ok events
    → broke_off (count_outcome name batch scans files records).ends ≡ false
