use Rattle.std.proofs.Common.{All, vec_len}
use Rattle.vx_workers.specs.Answers.{ArePlaces, IsShare}
use Rattle.vx_workers.proofs.places.put_in_order.Given as goal

abbrev pub invariant-loop-share : goal.invariant-loop-share
invariant-loop-share g l = record {
  places : ArePlaces g.F.Fn l.task l.items l.places.items;
  shares : All (IsShare g.F.Fn l.task l.items) l.shares.items;
}

abbrev pub decreases-loop-share : goal.decreases-loop-share
decreases-loop-share g l = vec_len l.shares
