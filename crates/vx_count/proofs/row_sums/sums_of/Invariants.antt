use Rattle.std.proofs.Common.{◌≡◌, ◌*◌, length}
use Rattle.vx_count.specs.Sums.{BeginsWithSums, blocks_of}
use Rattle.vx_count.proofs.row_sums.sums_of.Given as goal

abbrev pub invariant-loop-row : goal.invariant-loop-row
invariant-loop-row l = record {
  size : length l.sums.items ≡ l.rows.height * blocks_of l.rows;
  so_far : BeginsWithSums l.rows (l.row * blocks_of l.rows) l.sums.items;
}
