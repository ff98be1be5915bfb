use Rattle.vx_command_try.proofs.Sets.{set-is}
use Rattle.vx_command_try.proofs.command.set_up.Goals as goal

pub returns-clause-set : goal.returns-clause-set
returns-clause-set c = set-is c.plans_show_each_option.ensures _ c.requires.election c.requires.plans
