use Rattle.std.proofs.Common.{take}
use Rattle.vx_tally.specs.Running.{SumsUp}
use Rattle.vx_audit.proofs.totals.totals_of.Given as goal

abbrev pub invariant-loop-one : goal.invariant-loop-one
invariant-loop-one l = SumsUp (take l.one-index l.records) l.totals
