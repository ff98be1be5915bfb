use Rattle.vx_json_trip.proofs.Strings.{strings-utf8}
use Rattle.vx_json_trip.proofs.laws.strings_are_utf8.Goals as goal

pub returns : goal.returns
returns c = strings-utf8
