use Rattle.std.proofs.Common.{◌≡◌, ◌-◌, pos}
use Rattle.vx_plane.specs.Plane.{painted, placed, in_any}
use Rattle.vx_simulate.proofs.Insides.{above, cut}
use Rattle.vx_simulate.proofs.painting.paint_first.Given as goal

-- the ink of the rows so far is painted, and so much is left
abbrev pub invariant-loop-row : goal.invariant-loop-row
invariant-loop-row l = record {
  left : l.many ≡ l.fn.n - above l.row;
  so_far : l.page ≡ painted l.fn.page (placed (pos l.fn.x) (pos l.fn.y) (in_any l.row (cut l.fn.n)));
}
