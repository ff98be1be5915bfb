use Rattle.vx_json_trip.proofs.Whole.{line-read_back}
use Rattle.vx_json_trip.proofs.laws.lines_are_read_back.Goals as goal

pub returns : goal.returns
returns c = line-read_back
