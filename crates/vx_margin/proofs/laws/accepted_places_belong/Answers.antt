use Rattle.vx_margin.proofs.Found.{accepted-belongs}
use Rattle.vx_margin.proofs.laws.accepted_places_belong.Goals as goal

pub returns : goal.returns
returns c = λ s scan paper marks p slant are shows zone accepted. accepted-belongs s slant scan paper marks are shows p zone accepted
