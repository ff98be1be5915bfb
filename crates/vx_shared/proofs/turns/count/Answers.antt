use Rattle.std.proofs.Common.{arith}
use mathlib.Core.Option.{none}
use Rattle.atomic_table.specs.Table.{step}
use Rattle.vx_shared.proofs.Counting.{commits}
use Rattle.vx_shared.proofs.turns.count.Goals as goal

pub fetch_add-requires : goal.fetch_add-requires
fetch_add-requires c = let words = c.requires.board.0 in (
  c.requires.place,
  omega arith,
  commits c.args.steps.now.table_id.slots c.args.seat.now.id c.args.seat.now.me (step c.args.steps.now.table_id.slots 2 1 0 none) c.requires.worked,
)
