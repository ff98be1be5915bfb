use Rattle.vx_certified.proofs.FaultLines.{fault-one-line}
use Rattle.vx_certified.proofs.readings.faults_are_one_line.Goals as goal

pub returns : goal.returns
returns c = fault-one-line
