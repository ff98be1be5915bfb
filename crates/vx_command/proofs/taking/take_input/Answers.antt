use Rattle.std.proofs.Common.{true, false}
use Rattle.vx_command.proofs.Asking.{one-asked}
use Rattle.vx_command.proofs.taking.take_input.Goals as goal

pub returns-in-Ok-clause-asked : goal.returns-in-Ok-clause-asked
returns-in-Ok-clause-asked g c =
    one-asked g.I.Inputs c.args.name.now c.args.inputs.now c.take_reusing.new.inputs true c.take_reusing.ensures.asked

pub returns-in-Err-clause-asked : goal.returns-in-Err-clause-asked
returns-in-Err-clause-asked g c =
    one-asked g.I.Inputs c.args.name.now c.args.inputs.now c.take_reusing.new.inputs false c.take_reusing.ensures.asked
