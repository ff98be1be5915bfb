use Rattle.std.proofs.Common.{◌≡◌, ◌≤◌, List, length, rules, sym, subst}
use Rattle.vx_styles.specs.declared.card.Card.{Card}
use Rattle.vx_styles.specs.Cards.{cards_of}
use Rattle.vx_styles.proofs.CardLaws.{few-cards}
use Rattle.vx_styles.proofs.styles.cards.Goals as goal

pub returns-clause-few : goal.returns-clause-few
returns-clause-few c =
    let same : c.from_vec.result ≡ cards_of c.args.election.now = search rules in
    subst (λ (cards : List Card). length cards ≤ 1024) (sym same) (few-cards c.args.election.now c.requires)
