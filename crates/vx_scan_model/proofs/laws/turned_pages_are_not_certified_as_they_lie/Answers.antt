use Rattle.vx_scan_model.proofs.Certificates.{turned-uncertified}
use Rattle.vx_scan_model.proofs.laws.turned_pages_are_not_certified_as_they_lie.Goals as goal

pub returns : goal.returns
returns c = turned-uncertified c.laws_below.ensures.upright c.laws_below.ensures.turned
