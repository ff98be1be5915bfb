use Rattle.std.proofs.Common.{◌≡◌, pos}
use Rattle.vx_plane.specs.Plane.{dark_at}
use Rattle.vx_plane.specs.Count.{count_in}
use Rattle.vx_count.proofs.packed.PackedRows.in_rows.Given as goal

abbrev pub invariant-loop-j : goal.invariant-loop-j
invariant-loop-j l = l.dark ≡ count_in (pos l.left) (pos l.top) l.width l.j (dark_at l.self)
