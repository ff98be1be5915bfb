use Rattle.std.proofs.Common.{◌≡◌, ◌++◌, ◌*◌, map, min, length}
use Rattle.std.specs.List.{range_with_len}
use Rattle.vx_bits.specs.Packed.{packed_byte, stride_of}
use Rattle.vx_gray.specs.Packing.{row_below}
use Rattle.vx_gray.proofs.packing.append_row.Given as goal

abbrev pub invariant-loop-across : goal.invariant-loop-across
invariant-loop-across l =
    l.into.items ≡ l.fn.into.items ++ map (packed_byte (row_below l.halves l.pixels)) (range_with_len 0 (min (8 * l.across) (stride_of (length l.pixels))))
