use Rattle.std.proofs.Common.{arith}
use Rattle.vx_records.proofs.Longest.{left_is_small}
use Rattle.vx_records.proofs.decoding.decode.Goals as goal

pub overflow_cast-result : goal.overflow_cast-result
overflow_cast-result c =
    let stops = rw c.in-Err-Left.field-0-is at c.in-Err-Left.ensures in
    omega (arith, left_is_small c.args.body.now c.in-Err-Left.left stops, c.saturating_sub-at.ensures)
