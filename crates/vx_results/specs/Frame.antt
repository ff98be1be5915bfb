-- What stands around the figures of a summary.
use Rattle.std.specs.Prelude.{◌≡◌, List, map}
use Rattle.vx_election_model.specs.declared.election.Election.{Election}
use Rattle.vx_styles.specs.Cards.{cards_of}
use Rattle.vx_events.specs.declared.event.Event.{Event}
use Rattle.vx_center.specs.Sheets.{sheets_in}
use Rattle.vx_results.specs.declared.summarizing.Frame.{Frame}
use Rattle.vx_results.specs.Figures.{card_contests}
use Rattle.vx_results.specs.Kinds.{kinds_in}
use Rattle.vx_results.specs.Report.{contest_of, units_of}

-- the cards and their contests, the kinds that have lines, and the names of the units and of the contests
pub record IsFrame (election : Election) (kept : List Event) (frame : Frame) : Type 0 where
  pub cards : frame.cards ≡ cards_of election
  pub lists : frame.lists.items ≡ card_contests election
  pub kinds : frame.kinds.items ≡ kinds_in (sheets_in kept)
  pub units : frame.units ≡ units_of election
  pub contests : frame.contests ≡ map contest_of election.contests
