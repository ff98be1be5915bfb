use Rattle.vx_layout.proofs.Extents.{dots-in_cells}
use Rattle.vx_layout.proofs.Keeping.{printed-free}
use Rattle.vx_layout.proofs.laws.printed_zones_meet_no_text.Goals as goal

pub returns : goal.returns
returns c = record { zones = printed-free; dots = dots-in_cells }
