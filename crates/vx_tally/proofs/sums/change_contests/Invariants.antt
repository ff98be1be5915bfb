use Rattle.std.proofs.Common.{take}
use Rattle.std.specs.List.{flat_map}
use Rattle.vx_tally.specs.Sums.{contest_shares, IsChanged}
use Rattle.vx_tally.proofs.sums.change_contests.Given as goal

abbrev pub invariant-loop-counted : goal.invariant-loop-counted
invariant-loop-counted l = IsChanged l.change (flat_map (contest_shares l.unit) (take l.counted-index l.contests)) l.initial.sums l.sums
