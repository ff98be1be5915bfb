use Rattle.vx_styles.proofs.CardLaws.{contests-there}
use Rattle.vx_styles.proofs.laws.contests_of_a_card_are_there.Goals as goal

pub returns : goal.returns
returns c = contests-there
