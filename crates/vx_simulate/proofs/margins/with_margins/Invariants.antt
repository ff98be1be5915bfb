use Rattle.std.proofs.Common.{◌+◌}
use Rattle.vx_plane.specs.Plane.{dark_at}
use Rattle.vx_simulate.specs.Rows.{in_margins, HoldsRows}
use Rattle.vx_simulate.proofs.margins.with_margins.Given as goal

-- the rows so far hold the paper in its margins
abbrev pub invariant-loop-y : goal.invariant-loop-y
invariant-loop-y l = HoldsRows l.rows.items (in_margins (dark_at l.paper)) (136 + l.y)
