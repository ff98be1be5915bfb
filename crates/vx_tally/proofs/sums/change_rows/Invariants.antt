use Rattle.std.proofs.Common.{take}
use Rattle.std.specs.List.{flat_map}
use Rattle.vx_tally.specs.Sums.{row_shares, IsChanged}
use Rattle.vx_tally.proofs.sums.change_rows.Given as goal

abbrev pub invariant-loop-row : goal.invariant-loop-row
invariant-loop-row l = IsChanged l.change (flat_map (row_shares l.unit l.contest) (take l.row-index l.rows)) l.initial.sums l.sums
