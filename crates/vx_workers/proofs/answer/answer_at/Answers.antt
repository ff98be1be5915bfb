use Rattle.vx_workers.proofs.Answering.{at_place}
use Rattle.vx_workers.proofs.answer.answer_at.Goals as goal

pub returns : goal.returns
returns g c = at_place g.F.Fn c.args.task.now c.args.items.now c.args.place c.item_at.result.now c.answer_of.result c.item_at.ensures c.answer_of.ensures
