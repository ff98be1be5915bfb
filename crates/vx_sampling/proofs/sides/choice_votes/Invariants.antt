use Rattle.std.proofs.Common.{◌≡◌, map}
use Rattle.std.specs.List.{range_with_len}
use Rattle.vx_tally.specs.Running.{summed_in}
use Rattle.vx_sampling.proofs.sides.choice_votes.Given as goal

abbrev pub invariant-loop-choice : goal.invariant-loop-choice
invariant-loop-choice l = l.votes.items ≡ map ((summed_in l.totals).votes l.place) (range_with_len 0 l.choice)
