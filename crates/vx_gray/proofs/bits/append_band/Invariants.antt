use Rattle.std.proofs.Common.{◌≡◌, take}
use Rattle.std.specs.List.{flat_map}
use Rattle.vx_bits.specs.Packed.{packed_row}
use Rattle.vx_gray.specs.Gray.{bits_of}
use Rattle.vx_gray.proofs.bits.append_band.Given as goal

abbrev pub invariant-loop-v : goal.invariant-loop-v
invariant-loop-v l = l.rows.items ≡ flat_map packed_row (take l.v (bits_of l.gray).rows)
