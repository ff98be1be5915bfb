use Rattle.vx_command_count.proofs.Journals.{stays}
use Rattle.vx_command_count.proofs.laws.count_keeps_journals.Goals as goal

pub returns : goal.returns
returns c =
    stays c.taken_elections_are_valid.ensures c.replies_are_done_or_refuse.ensures c.begun_journals_are_journals.ensures c.journals_grow.ensures
    c.sheet_events_are_keepable.ensures c.headers_begin_journals.ensures
