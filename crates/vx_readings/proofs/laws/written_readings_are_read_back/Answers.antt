use Rattle.vx_readings.proofs.WrittenRead.{read-back}
use Rattle.vx_readings.proofs.laws.written_readings_are_read_back.Goals as goal

pub returns : goal.returns
returns c = read-back
