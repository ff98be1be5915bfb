use Rattle.std.proofs.Common.{All}
use Rattle.vx_workers.specs.Answers.{IsAnswerAt}
use Rattle.vx_workers.proofs.tasks.take_items.Given as goal

abbrev pub invariant-loop : goal.invariant-loop
invariant-loop g l = All (IsAnswerAt g.F.Fn l.task l.items) l.done.items
