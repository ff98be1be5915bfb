use Rattle.std.proofs.Common.{◌≡◌, length, map}
use Rattle.std.specs.Prelude.{filter}
use Rattle.std.specs.List.{range_with_len}
use Rattle.vx_rounds.specs.Piles.{pile_at, stands_in}
use Rattle.vx_rounds.proofs.counting.counts_in.Given as goal

abbrev pub invariant-loop-candidate : goal.invariant-loop-candidate
invariant-loop-candidate l =
    l.counts ≡ map (λ c. (c, length (pile_at l.piles c))) (filter (stands_in l.piles) (range_with_len 0 l.candidate))
