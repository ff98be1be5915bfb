use Rattle.vx_command_center.proofs.Reported.{reports}
use Rattle.vx_command_center.proofs.laws.center_reports_what_is_kept.Goals as goal

pub returns : goal.returns
returns c =
    reports c.journals_are_histories.ensures c.exports_show_what_was_kept.ensures c.taken_elections_are_valid.ensures c.replies_are_done_or_refuse.ensures c.said_events_are_held.ensures c.sheet_events_are_keepable.ensures
    c.journals_grow.ensures c.headers_begin_journals.ensures
