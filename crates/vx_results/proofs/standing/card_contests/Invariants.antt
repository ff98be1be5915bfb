use Rattle.std.proofs.Common.{◌≡◌, map}
use Rattle.std.specs.List.{range_with_len}
use Rattle.vx_styles.specs.Cards.{contests_of_card}
use Rattle.vx_results.proofs.standing.card_contests.Given as goal

abbrev pub invariant-loop-card : goal.invariant-loop-card
invariant-loop-card l = l.lists.items ≡ map (contests_of_card l.election) (range_with_len 0 l.card)
