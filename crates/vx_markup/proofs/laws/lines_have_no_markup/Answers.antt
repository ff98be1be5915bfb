use Rattle.vx_markup.proofs.Markup.{line}
use Rattle.vx_markup.proofs.laws.lines_have_no_markup.Goals as goal

pub returns : goal.returns
returns c = line
