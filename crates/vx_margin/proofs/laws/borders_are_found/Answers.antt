use Rattle.vx_margin.proofs.Finds.{finds-border}
use Rattle.vx_margin.proofs.laws.borders_are_found.Goals as goal

pub returns : goal.returns
returns c = finds-border
