use Rattle.vx_command_decide.proofs.Keeping.{stays}
use Rattle.vx_command_decide.proofs.laws.decide_keeps_journals.Goals as goal

pub returns : goal.returns
returns c =
    stays c.replies_are_done_or_refuse.ensures c.begun_journals_are_journals.ensures c.said_events_are_held.ensures c.journals_grow.ensures c.headers_begin_journals.ensures
