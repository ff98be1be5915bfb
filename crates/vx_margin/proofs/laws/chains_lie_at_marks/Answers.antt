use Rattle.vx_margin.proofs.Chains.{chain-near}
use Rattle.vx_margin.proofs.laws.chains_lie_at_marks.Goals as goal

pub returns : goal.returns
returns c = λ s scan paper marks n places slant are shows few chain first. chain-near s scan paper marks slant are shows n places few chain first
