use Rattle.vx_workers.proofs.Answering.{of_shown}
use Rattle.vx_workers.proofs.answer.answer_of.Goals as goal

pub returns : goal.returns
returns g c = of_shown g.F.Fn c.args.task.now c.args.item c.task.result c.task.ensures
