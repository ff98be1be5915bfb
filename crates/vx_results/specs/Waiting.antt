-- How many contests of added sheets wait, and so aren't exported.
use Rattle.std.specs.Prelude.{not, List, filter}
use Rattle.std.specs.List.{flat_map}
use Rattle.vx_election_model.specs.declared.election.Election.{Election}
use Rattle.vx_rules.specs.declared.marks.ContestMarks.{ContestMarks}
use Rattle.vx_events.specs.declared.event.Event.{Event}
use Rattle.vx_center.specs.Sheets.{Added, sheets_in}
use Rattle.vx_center.specs.Waiting.{exports}

-- the contests of an added sheet that wait: those that aren't exported
abbrev pub waiting_on : Election → List Event → Added → List ContestMarks
waiting_on election kept added = filter (λ (marks : ContestMarks). not (exports election kept added marks)) added.sheet.contests

-- those of all sheets that were added
abbrev pub waiting_in : Election → List Event → List ContestMarks
waiting_in election kept = flat_map (waiting_on election kept) (sheets_in kept)
