use Rattle.std.proofs.Common.{refl}
use Rattle.hex.proofs.OnLiterals.{hex_on_literals}
use Rattle.vx_trials_results.proofs.drawing.zeros.Goals as goal

pub returns : goal.returns
unfolding hex_on_literals
returns c = record { digits = refl; lower = refl }
