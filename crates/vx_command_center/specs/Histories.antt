-- Histories of items that were done at one shared center, and how the center has ended.
use Rattle.std.specs.Prelude.{◌≡◌, ◌≤◌, List, length, map}
use Rattle.std.specs.List.{flat_map}
use Rattle.vx_election_model.specs.declared.election.Election.{Election}
use Rattle.vx_events.specs.declared.event.Event.{Event}
use Rattle.vx_shared.specs.declared.history.Entry.{Entry}
use Rattle.vx_shared.specs.Interleaving.{Interleaving}
use Rattle.vx_shared.specs.Legal.{IsLegal, after, events_in}
use Rattle.vx_journal.specs.declared.journal.Journal.{Journal}
use Rattle.vx_command_center.specs.declared.item.Item.{Item}
use Rattle.vx_command_center.specs.declared.working.Ended.{Ended}
use Rattle.vx_command_center.specs.Items.{events_of, lines_of_item}

-- behind kept events each reply is the machine's, and the events interleave those of the items
pub record IsHistoryOf (election : Election) (kept : List Event) (items : List Item) (history : List Entry)
    : Type 0 where
  pub legal : IsLegal (record { election = election; events = kept }) history
  pub interleaved : Interleaving (map (events_of election) items) (events_in history)

-- so has a center ended that was made of a journal's: its history is the items', its journal keeps the Done events
-- behind those of the journal, and its text is the items' lines
pub record HasEndedSo (begun : Journal) (items : List Item) (ended : Ended) : Type 0 where
  pub of_items : IsHistoryOf begun.center.election begun.center.events items ended.history
  pub few : length ended.history ≤ 1000000
  pub center : ended.journal.center ≡ after begun.center ended.history
  pub is_new : ended.journal.is_new ≡ begun.is_new
  pub text : ended.text ≡ flat_map (lines_of_item begun.center.election) items
