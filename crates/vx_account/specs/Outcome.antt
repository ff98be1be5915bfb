-- What a command does that writes one text of the events that its journal keeps.
use Rattle.std.specs.Prelude.{ℕ, List}
use Rattle.vx_io.specs.Outside.{Files}
use Rattle.vx_election_model.specs.declared.election.Election.{Election}
use Rattle.vx_events.specs.declared.event.Event.{Event}
use Rattle.vx_command.specs.Acts.{Outcome, writing}
use Rattle.vx_command.specs.Elections.{once_election}
use Rattle.vx_journal.specs.Steps.{once_read}

-- a text of kept events is written, for the election under a name, over the records of its journal
abbrev pub account_outcome : (Election → List Event → List ℕ) → List ℕ → Files → List (List ℕ) → Outcome
account_outcome text election files records =
    once_election (files election) (λ given. once_read given records (λ journal. writing (text given journal.center.events)))
