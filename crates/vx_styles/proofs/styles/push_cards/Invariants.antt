use Rattle.std.proofs.Common.{◌≡◌, ◌++◌, take}
use Rattle.vx_styles.specs.Cards.{cards_of_style}
use Rattle.vx_styles.proofs.styles.push_cards.Given as goal

abbrev pub invariant-loop-precinct : goal.invariant-loop-precinct
invariant-loop-precinct l = l.cards.items ≡ l.fn.cards.items ++ cards_of_style l.style (take l.precinct-index l.precincts)
