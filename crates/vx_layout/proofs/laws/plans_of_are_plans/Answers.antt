use Rattle.vx_layout.proofs.Listed.{listed-each, listed-one}
use Rattle.vx_layout.proofs.laws.plans_of_are_plans.Goals as goal

pub returns : goal.returns
returns c = record { each = listed-each; one = listed-one }
