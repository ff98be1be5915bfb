use Rattle.vx_margin.proofs.Places.{places-near}
use Rattle.vx_margin.proofs.laws.grid_places_lie_near.Goals as goal

pub returns : goal.returns
returns c = λ s border c r slant near few low. places-near s slant border near c r few low
