use Rattle.std.proofs.Common.{◌≡◌, ◌*◌, take}
use Rattle.std.specs.List.{flat_map}
use Rattle.vx_bits.specs.Packed.{packed_page, packed_row, stride_of}
use Rattle.vx_bits.proofs.raster.is_raster.Given as goal

abbrev pub invariant-loop-v : goal.invariant-loop-v
invariant-loop-v l = flat_map packed_row (take l.v (packed_page l.width l.height l.rows).rows) ≡ take (l.v * stride_of l.width) l.rows
