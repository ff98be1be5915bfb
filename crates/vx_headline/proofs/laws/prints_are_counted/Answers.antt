use Rattle.vx_headline.proofs.Day.{prints-are-counted}
use Rattle.vx_headline.proofs.laws.prints_are_counted.Goals as goal

pub returns : goal.returns
returns c = prints-are-counted c.clean_prints_fit.ensures.clean c.stacks_are_counted.ensures
