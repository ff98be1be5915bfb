use Rattle.vx_scan_model.proofs.Borders.{IsBorderOf-border_of}
use Rattle.vx_scan_model.proofs.laws.every_scan_has_its_border.Goals as goal

pub returns : goal.returns
returns c = IsBorderOf-border_of c.a_list_is_followed.ensures.corner c.a_list_is_followed.ensures.grows
