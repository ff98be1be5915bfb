-- What holds of the events of scripts.
use Rattle.std.specs.Prelude.{◌≡◌, ℕ, List, Some}
use Rattle.vx_election_model.specs.declared.election.Election.{Election}
use Rattle.vx_events.specs.declared.event.Event.{Event}
use Rattle.vx_events.specs.Fits.{Fits}
use Rattle.vx_records.specs.Held.{IsHeld}
use Rattle.vx_script.specs.Script.{event_in}

-- the event of a line fits the election, and has a record
abbrev pub SaidEventsAreHeld : Type 0
SaidEventsAreHeld =
    (election : Election) (line : List ℕ) (event : Event) → event_in election line ≡ Some event
    → IsHeld event × Fits election event
