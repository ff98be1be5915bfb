use Rattle.std.proofs.Common.{take}
use Rattle.vx_workers.specs.Answers.{ArePlaces}
use Rattle.vx_workers.proofs.places.empty_places.Given as goal

abbrev pub invariant-loop : goal.invariant-loop
invariant-loop g l = ArePlaces g.F.Fn l._task (take l.index l.items) l.places.items
