use Rattle.vx_styles.proofs.CardLaws.{precinct-there}
use Rattle.vx_styles.proofs.laws.each_card_has_its_precinct.Goals as goal

pub returns : goal.returns
returns c = precinct-there
