use Rattle.std.proofs.Common.{◌≡◌, ◌++◌, drop}
use Rattle.vx_styles.specs.Cards.{cards_from}
use Rattle.vx_styles.proofs.styles.cards_of.Given as goal

abbrev pub invariant-loop-style : goal.invariant-loop-style
invariant-loop-style l = record {
  at : l.place ≡ l.style-index;
  so_far : l.cards.items ++ cards_from l.place (drop l.style-index l.styles) ≡ cards_from 0 l.styles;
}
