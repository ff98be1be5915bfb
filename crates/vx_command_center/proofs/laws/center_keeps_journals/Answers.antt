use Rattle.vx_command_center.proofs.Kept.{stays}
use Rattle.vx_command_center.proofs.laws.center_keeps_journals.Goals as goal

pub returns : goal.returns
returns c =
    stays c.taken_elections_are_valid.ensures c.replies_are_done_or_refuse.ensures c.begun_journals_are_journals.ensures c.said_events_are_held.ensures
    c.sheet_events_are_keepable.ensures c.journals_grow.ensures c.headers_begin_journals.ensures
