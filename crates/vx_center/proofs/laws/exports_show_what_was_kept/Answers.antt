use Rattle.vx_center.proofs.Shown.{shown}
use Rattle.vx_center.proofs.laws.exports_show_what_was_kept.Goals as goal

pub returns : goal.returns
returns c = shown
