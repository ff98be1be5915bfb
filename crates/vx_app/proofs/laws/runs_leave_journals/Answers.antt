use Rattle.vx_app.proofs.Journals.{runs-leave}
use Rattle.vx_app.proofs.laws.runs_leave_journals.Goals as goal

pub returns : goal.returns
returns c =
    runs-leave c.count_keeps_journals.ensures c.decide_keeps_journals.ensures c.center_keeps_journals.ensures c.journals_stay.ensures
    c.fronts_are_journals.ensures
