use Rattle.std.proofs.Common.{◌≡◌, ◌++◌, take}
use Rattle.std.specs.List.{flat_map}
use Rattle.vx_bits.specs.Packed.{packed_row}
use Rattle.vx_bits.proofs.raster.append_rows.Given as goal

abbrev pub invariant-loop-v : goal.invariant-loop-v
invariant-loop-v l = l.into ≡ l.fn.into ++ flat_map packed_row (take l.v l.page.rows)
