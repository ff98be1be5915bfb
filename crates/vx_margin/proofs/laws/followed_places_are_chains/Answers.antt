use Rattle.vx_margin.proofs.Chains.{followed-chain}
use Rattle.vx_margin.proofs.laws.followed_places_are_chains.Goals as goal

pub returns : goal.returns
returns c = followed-chain
