use Rattle.std.proofs.Common.{◌≡◌, take}
use Rattle.vx_audit.specs.Pairs.{voted}
use Rattle.vx_audit.proofs.marks.voted.Given as goal

abbrev pub invariant-loop-row : goal.invariant-loop-row
invariant-loop-row l = l.places ≡ voted (take l.row-index l.rows)
