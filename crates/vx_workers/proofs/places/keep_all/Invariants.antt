use Rattle.std.proofs.Common.{All, vec_len}
use Rattle.vx_workers.specs.Answers.{ArePlaces, IsAnswerAt}
use Rattle.vx_workers.proofs.places.keep_all.Given as goal

abbrev pub invariant-loop-done : goal.invariant-loop-done
invariant-loop-done g l = record {
  places : ArePlaces g.F.Fn l._task l._items l.places.items;
  share : All (IsAnswerAt g.F.Fn l._task l._items) l.share.items;
}

abbrev pub decreases-loop-done : goal.decreases-loop-done
decreases-loop-done g l = vec_len l.share
