use Rattle.vx_pbm.proofs.Plains.{Filled}
use Rattle.vx_pbm.proofs.plain.fill.Given as goal

abbrev pub invariant-loop-i : goal.invariant-loop-i
invariant-loop-i l = Filled l.fn.page.width l.fn.page.height l.offset l.need l.raster l.i l.page l.have
