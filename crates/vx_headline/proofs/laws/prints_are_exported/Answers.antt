use Rattle.vx_headline.proofs.Day.{prints-are-exported}
use Rattle.vx_headline.proofs.laws.prints_are_exported.Goals as goal

pub returns : goal.returns
returns c = prints-are-exported c.marked_pages_are_exported.ensures c.prints_are_counted.ensures
