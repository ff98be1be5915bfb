use Rattle.std.proofs.Common.{arith}
use Rattle.vx_records.proofs.Longest.{header_left_is_small}
use Rattle.vx_records.proofs.decoding.header_digest.Goals as goal

pub overflow_cast-result : goal.overflow_cast-result
overflow_cast-result c =
    let stops = rw c.in-Err-Left.field-0-is at c.in-Err-Left.ensures.exact in
    omega (arith, header_left_is_small c.args.body.now c.in-Err-Left.left stops, c.saturating_sub-at.ensures)
