use Rattle.vx_layout.proofs.Keeping.{printed-clear}
use Rattle.vx_layout.proofs.laws.printed_pages_keep_clear.Goals as goal

pub returns : goal.returns
returns c = printed-clear
