use Rattle.vx_json_trip.proofs.Whole.{text-read_back}
use Rattle.vx_json_trip.proofs.laws.texts_are_read_back.Goals as goal

pub returns : goal.returns
returns c = text-read_back
