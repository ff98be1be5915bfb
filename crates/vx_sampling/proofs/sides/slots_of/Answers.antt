use Rattle.std.proofs.Common.{length}
use Rattle.vx_base.proofs.Ranges.{range-more}
use Rattle.vx_sampling.proofs.sides.slots_of.Goals as goal

pub loop-slot-preserved : goal.loop-slot-preserved
loop-slot-preserved c = let more = range-more (length c.args.contest.now.choices) c.loop-slot.slot in cc (more, c.in_ok-push.ensures)
