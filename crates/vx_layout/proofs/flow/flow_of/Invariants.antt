use Rattle.std.proofs.Common.{◌≡◌, ◌≤◌, ◌++◌, drop}
use Rattle.vx_grid.specs.Grid.{contest_rows}
use Rattle.vx_layout.specs.Flow.{top, blocks_from, end_from}
use Rattle.vx_layout.proofs.flow.flow_of.Given as goal

-- the blocks so far, with those of the numbers left, are all
abbrev pub invariant-loop-number : goal.invariant-loop-number
invariant-loop-number l = record {
  blocks : l.blocks.items ++ blocks_from l.paper l.contests l.spot (drop l.number-index l.numbers) ≡ blocks_from l.paper l.contests top l.numbers;
  end : end_from l.paper l.contests l.spot (drop l.number-index l.numbers) ≡ end_from l.paper l.contests top l.numbers;
  row : l.spot.row ≤ contest_rows l.paper;
  column : l.spot.column ≤ l.number-index;
}
