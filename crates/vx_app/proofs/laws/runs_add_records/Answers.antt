use Rattle.vx_app.proofs.Adds.{all-add}
use Rattle.vx_app.proofs.laws.runs_add_records.Goals as goal

pub returns : goal.returns
returns c = all-add
