use Rattle.vx_markup.proofs.Markup.{joined}
use Rattle.vx_markup.proofs.laws.texts_join_without_markup.Goals as goal

pub returns : goal.returns
returns c = joined
