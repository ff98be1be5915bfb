use Rattle.vx_scan_model.proofs.Borders.{border_of-is}
use Rattle.vx_scan_model.proofs.laws.a_border_is_the_border.Goals as goal

pub returns : goal.returns
returns c = border_of-is c.a_list_is_followed.ensures.corner c.a_list_is_followed.ensures.grows c.borders_are_one.ensures.answer
