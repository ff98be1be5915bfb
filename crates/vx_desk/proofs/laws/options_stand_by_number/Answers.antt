use Rattle.vx_desk.proofs.Numbered.{stand_by_number}
use Rattle.vx_desk.proofs.laws.options_stand_by_number.Goals as goal

pub returns : goal.returns
returns c = stand_by_number c.plans_are_numbered.ensures c.plans_show_each_option.ensures
