use Rattle.std.proofs.Common.{◌≡◌, ◌≤◌}
use Rattle.std.specs.List.{flat_map, range_with_len}
use Rattle.vx_bits.specs.Packed.{packed_row}
use Rattle.vx_desk.specs.Pictures as spec
use Rattle.vx_desk.proofs.picture.raster.Given as goal

-- the rows so far
abbrev pub invariant-loop-y : goal.invariant-loop-y
invariant-loop-y l = record {
  rows : l.raster ≡ flat_map (λ y. packed_row (spec.row_at l.image.page l.region y)) (range_with_len 0 l.y);
  few : l.y ≤ l.y-end;
}
