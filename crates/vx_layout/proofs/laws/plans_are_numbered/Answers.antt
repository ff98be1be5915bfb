use Rattle.vx_layout.proofs.Parts.{planned-numbered}
use Rattle.vx_layout.proofs.laws.plans_are_numbered.Goals as goal

pub returns : goal.returns
returns c = λ election card plan valid h. planned-numbered election card plan (c.cards_are_few.ensures election valid) valid h
