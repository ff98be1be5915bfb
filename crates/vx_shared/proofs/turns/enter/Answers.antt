use Rattle.std.proofs.Common.{arith}
use mathlib.Core.Option.{none}
use Rattle.atomic_table.specs.Table.{step}
use Rattle.vx_shared.proofs.Turning.{draws}
use Rattle.vx_shared.proofs.turns.enter.Goals as goal

pub fetch_add-number-requires : goal.fetch_add-number-requires
fetch_add-number-requires g c = let words = c.requires.board.0 in (
  c.requires.place,
  omega arith,
  draws c.args.steps.now.table_id.slots c.args.seat.now.id c.args.seat.now.me (step c.args.steps.now.table_id.slots 0 1 0 none) c.requires.ready,
)
