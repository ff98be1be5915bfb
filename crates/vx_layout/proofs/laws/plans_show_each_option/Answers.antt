use Rattle.vx_layout.proofs.OnePage.{page-for_contests}
use Rattle.vx_layout.proofs.Shown.{each-option_shown}
use Rattle.vx_layout.proofs.laws.plans_show_each_option.Goals as goal

pub returns : goal.returns
returns c = λ election card plan valid h. (each-option_shown election card plan valid h, page-for_contests election card plan valid h)
