use Rattle.std.proofs.Common.{arith, sym, ◌∙◌, subst}
use mathlib.Core.Option.{none}
use Rattle.atomic_table.specs.Table.{step}
use Rattle.vx_shared.specs.Plays.{Sat, IsWaiting}
use Rattle.vx_shared.proofs.Turning.{looks}
use Rattle.vx_shared.proofs.turns.wait.Goals as goal

pub load-serving-requires : goal.load-serving-requires
load-serving-requires g c =
    let waits : IsWaiting c.loop.seat.me c.args.number = subst (λ (m : Sat). IsWaiting m c.args.number) (sym c.loop.invariant.1) c.requires.waits in
    let words = c.requires.board.0 in (
      c.loop.invariant.0 ∙ c.requires.place,
      omega arith,
      looks c.loop.seat.id c.loop.seat.me c.args.number (step c.args.steps.now.table_id.slots 1 0 0 none) waits c.args.steps.now.table_id.slots,
    )
