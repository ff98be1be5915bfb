use Rattle.std.proofs.Common.{◌≡◌, ◌+◌, ◌*◌, pos}
use Rattle.vx_plane.specs.Plane.{dark_at}
use Rattle.vx_plane.specs.Count.{count_in}
use Rattle.vx_count.specs.Sums.{BeginsWithSums, blocks_of}
use Rattle.vx_count.proofs.row_sums.write_sums.Given as goal

abbrev pub invariant-loop-k : goal.invariant-loop-k
invariant-loop-k l = record {
  counted : l.dark ≡ count_in (pos 0) (pos l.row) (1024 * l.k) 1 (dark_at l.rows);
  so_far : BeginsWithSums l.rows (l.row * blocks_of l.rows + l.k) l.sums;
}
