use Rattle.vx_shared.proofs.Crossing.{Center-shared-send, Center-shared-sync}
use Rattle.vx_shared.proofs.laws.center_is_shared.Goals as goal

pub returns : goal.returns
returns c = record { shared = Center-shared-sync; handed = Center-shared-send }
