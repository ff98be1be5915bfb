use Rattle.vx_layout.proofs.Clear.{planned-on_grid}
use Rattle.vx_layout.proofs.laws.plans_stand_on_the_grid.Goals as goal

pub returns : goal.returns
returns c = planned-on_grid
