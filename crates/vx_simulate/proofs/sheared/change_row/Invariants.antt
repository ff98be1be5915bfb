use Rattle.vx_simulate.proofs.ScanRows.{IsChanged}
use Rattle.vx_simulate.proofs.sheared.change_row.Given as goal

-- the bytes so far are changed, the others are as they were
abbrev pub invariant-loop-k : goal.invariant-loop-k
invariant-loop-k l = IsChanged l.fn.into l.row l.fn.from l.k l.into
