use Rattle.std.proofs.Common.{sym, length-take-le, arith}
use Rattle.vx_simulate.proofs.margins.append_row.Goals as goal

pub slice_bounds-whole-end : goal.slice_bounds-whole-end
slice_bounds-whole-end c = sym (length-take-le 212 c.args.row.now (omega (arith, c.requires)))
