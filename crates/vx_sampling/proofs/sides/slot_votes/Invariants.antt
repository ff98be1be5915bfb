use Rattle.std.proofs.Common.{◌≡◌, take}
use Rattle.std.specs.Prelude.{sum_by}
use Rattle.vx_tally.specs.Running.{summed_in}
use Rattle.vx_sampling.proofs.sides.slot_votes.Given as goal

abbrev pub invariant-loop-slot : goal.invariant-loop-slot
invariant-loop-slot l = l.votes ≡ sum_by ((summed_in l.totals).votes l.place) (take l.slot-index l.slots)
