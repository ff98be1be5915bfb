use Rattle.std.proofs.Common.{◌*◌, ◌<◌, ◌≤◌, ap, ◌∙◌, arith}
use Rattle.vx_gray.specs.Gray.{bits_of}
use Rattle.vx_gray.specs.Packing.{row_below}
use Rattle.vx_gray.proofs.Packs.{row_of_bits, row_more, length-bits}
use Rattle.vx_gray.proofs.bits.append_band.Goals as goal

pub loop-v-preserved : goal.loop-v-preserved
loop-v-preserved c =
    let start : 64 * c.args.down ≤ c.loop-v.v = omega arith in
    let inside : c.loop-v.v < c.args.gray.now.height = omega arith in
    row_more c.loop-v.rows.items c.append_row.new.into.items (bits_of c.args.gray.now).rows (row_below c.as_slice.result.now c.row.result.now) c.loop-v.v
    (omega (arith, length-bits c.args.gray.now)) c.loop-v.invariant c.in_ok-append_row.ensures
    (ap (λ h. row_below h c.row.result.now) c.as_slice.ensures.value
    ∙ row_of_bits c.args.gray.now c.args.down c.loop-v.v c.in_ok-halves.halves.items c.row.result.now c.in_ok-halves.ensures.halves
    (omega arith) inside c.row.ensures.size c.row.ensures.values)
