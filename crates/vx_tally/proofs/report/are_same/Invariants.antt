use Rattle.std.proofs.Common.{◌≡◌, drop}
use Rattle.std.specs.Cmp.Lexicographic.{pointwise}
use Rattle.vx_tally.specs.Totals.{same_contest}
use Rattle.vx_tally.proofs.report.are_same.Given as goal

abbrev pub invariant-loop-index : goal.invariant-loop-index
invariant-loop-index l = pointwise same_contest (drop l.index l.one) (drop l.index l.other) ≡ pointwise same_contest l.one l.other
