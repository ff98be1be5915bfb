use Rattle.std.proofs.Common.{◌≡◌, ◌≤◌, ◌++◌, map}
use Rattle.std.specs.List.{range_with_len}
use Rattle.vx_bits.specs.Packed.{packed_byte}
use Rattle.vx_desk.specs.Pictures as spec
use Rattle.vx_desk.proofs.picture.push_row.Given as goal

-- the bytes so far
abbrev pub invariant-loop-k : goal.invariant-loop-k
invariant-loop-k l = record {
  bytes : l.raster ≡ l.fn.raster ++ map (packed_byte (spec.row_at l.image.page l.region l.y)) (range_with_len 0 l.k);
  few : l.k ≤ l.k-end;
}
