-- What a center is seen as.
use Rattle.std.specs.Prelude.{List}
use Rattle.vx_election_model.specs.declared.election.Election.{Election}
use Rattle.vx_events.specs.declared.event.Event.{Event}

-- an election, and the events that were kept, in order
pub record Kept : Type 0 where
  pub election : Election
  pub events : List Event
