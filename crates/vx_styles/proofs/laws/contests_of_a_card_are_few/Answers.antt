use Rattle.vx_styles.proofs.CardLaws.{few-contests}
use Rattle.vx_styles.proofs.laws.contests_of_a_card_are_few.Goals as goal

pub returns : goal.returns
returns c = few-contests
