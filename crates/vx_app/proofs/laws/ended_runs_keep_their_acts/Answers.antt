use Rattle.vx_app.proofs.Ended.{all-kept}
use Rattle.vx_app.proofs.laws.ended_runs_keep_their_acts.Goals as goal

pub returns : goal.returns
returns c = all-kept c.runs_keep_events.ensures c.journals_are_their_events.ensures
