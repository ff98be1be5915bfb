-- Lists of events that a center may have kept.
use Rattle.std.specs.Prelude.{◌≡◌, ℕ, List, take, slice_get, Some}
use Rattle.vx_election_model.specs.declared.election.Election.{Election}
use Rattle.vx_events.specs.declared.event.Event.{Event}
use Rattle.vx_refusals.specs.declared.reply.Reply.TheVariants.{Done}
use Rattle.vx_events.specs.Fits.{Fits}
use Rattle.vx_center.specs.Replies.{reply_of}

-- each event fits the election, and is answered with Done behind those before it
pub record IsHistory (election : Election) (kept : List Event) : Type 0 where
  pub fits : (place : ℕ) (event : Event) → slice_get kept place ≡ Some event → Fits election event
  pub done : (place : ℕ) (event : Event) → slice_get kept place ≡ Some event
      → reply_of election (take place kept) event ≡ Done
