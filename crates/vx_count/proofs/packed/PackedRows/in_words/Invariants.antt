use Rattle.std.proofs.Common.{◌≡◌, ◌*◌, pos}
use Rattle.vx_plane.specs.Plane.{dark_at}
use Rattle.vx_plane.specs.Count.{count_in}
use Rattle.vx_count.proofs.packed.PackedRows.in_words.Given as goal

abbrev pub invariant-loop-k : goal.invariant-loop-k
invariant-loop-k l = l.dark ≡ count_in (pos l.left) (pos l.row) (64 * l.k) 1 (dark_at l.self)
