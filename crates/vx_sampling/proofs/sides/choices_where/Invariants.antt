use Rattle.std.proofs.Common.{◌≡◌}
use Rattle.std.specs.Prelude.{filter, slice_index}
use Rattle.std.specs.List.{range_with_len}
use Rattle.vx_sampling.specs.Standing.{is_as, wins}
use Rattle.vx_sampling.proofs.sides.choices_where.Given as goal

abbrev pub invariant-loop-choice : goal.invariant-loop-choice
invariant-loop-choice l = l.choices ≡ filter (λ choice. is_as l.winning (wins l.seats l.votes (slice_index l.votes choice))) (range_with_len 0 l.choice)
