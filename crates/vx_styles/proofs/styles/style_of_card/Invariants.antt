use Rattle.std.proofs.Common.{◌≡◌, ◌-◌, ◌<◌, length, drop, get_or}
use Rattle.vx_styles.specs.Cards.{cards_from, no_card}
use Rattle.vx_styles.proofs.styles.style_of_card.Given as goal

abbrev pub invariant-loop-left : goal.invariant-loop-left
invariant-loop-left l = record {
  there : l.left < length (cards_from l.place (drop l.place l.styles));
  same : get_or (cards_from 0 l.styles) l.card no_card ≡ get_or (cards_from l.place (drop l.place l.styles)) l.left no_card;
}

abbrev pub decreases-loop-left : goal.decreases-loop-left
decreases-loop-left l = length l.styles - l.place
