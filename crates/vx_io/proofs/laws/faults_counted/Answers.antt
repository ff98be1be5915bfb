use Rattle.vx_io.proofs.Texts.{CountsFaults-nothing, CountsFaults-after, CountsFaults-before}
use Rattle.vx_io.proofs.laws.faults_counted.Goals as goal

pub returns : goal.returns
returns c = record { nothing = CountsFaults-nothing; after = CountsFaults-after; before = CountsFaults-before }
