use Rattle.std.proofs.Common.{◌≡◌, map, take}
use Rattle.vx_center.specs.Exports.{row_at}
use Rattle.vx_center.proofs.center.Center.export_rows.Given as goal

abbrev pub invariant-loop-place : goal.invariant-loop-place
invariant-loop-place l = l.rows.items ≡ map (row_at l.self.election l.self.events) (take l.place-index l.place-items)
