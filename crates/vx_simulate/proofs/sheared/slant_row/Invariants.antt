use Rattle.vx_simulate.proofs.ScanRows.{IsSlanted}
use Rattle.vx_simulate.proofs.sheared.slant_row.Given as goal

-- the bytes so far
abbrev pub invariant-loop-k : goal.invariant-loop-k
invariant-loop-k l = IsSlanted l.rows l.strips l.v l.k l.into
