use Rattle.vx_center.proofs.Lasting.{claims-free, releases-held}
use Rattle.vx_center.proofs.laws.one_station_holds_a_sheet.Goals as goal

pub returns : goal.returns
returns c = record { claims = claims-free; releases = releases-held }
