use Rattle.vx_layout.proofs.Clear.{planned-paper}
use Rattle.vx_layout.proofs.laws.plans_have_the_elections_paper.Goals as goal

pub returns : goal.returns
returns c = planned-paper
