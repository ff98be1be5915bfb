use Rattle.vx_json_trip.proofs.Whole.{text-read}
use Rattle.vx_json_trip.proofs.laws.texts_are_read.Goals as goal

pub returns : goal.returns
returns c = text-read
