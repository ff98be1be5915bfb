use Rattle.vx_scan_model.proofs.Counted.{shown-counted}
use Rattle.vx_scan_model.proofs.laws.shown_pages_are_counted.Goals as goal

pub returns : goal.returns
returns c = shown-counted c.laws_below.ensures.upright
