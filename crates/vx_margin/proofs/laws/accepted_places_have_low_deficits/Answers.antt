use Rattle.vx_margin.proofs.Found.{accepted-low}
use Rattle.vx_margin.proofs.laws.accepted_places_have_low_deficits.Goals as goal

pub returns : goal.returns
returns c = accepted-low
