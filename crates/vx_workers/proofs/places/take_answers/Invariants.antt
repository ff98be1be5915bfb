use Rattle.std.proofs.Common.{take}
use Rattle.vx_workers.specs.Answers.{ArePlaces, AnswersInOrder}
use Rattle.vx_workers.proofs.places.take_answers.Given as goal

abbrev pub invariant-loop-place : goal.invariant-loop-place
invariant-loop-place g l = record {
  places : ArePlaces g.F.Fn l.task l.items l.places.items;
  answers : AnswersInOrder g.F.Fn l.task (take l.place l.items) l.answers.items;
}
