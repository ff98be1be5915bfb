use Rattle.vx_styles.proofs.CardLaws.{few-cards}
use Rattle.vx_styles.proofs.laws.cards_are_few.Goals as goal

pub returns : goal.returns
returns c = few-cards
