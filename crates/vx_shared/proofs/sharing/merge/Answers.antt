use Rattle.std.proofs.Common.{arith, ◌∙◌}
use mathlib.Core.Option.{none}
use Rattle.atomic_table.specs.Table.{step}
use Rattle.vx_shared.proofs.Parting.{joins, merges}
use Rattle.vx_shared.proofs.Joining.{beside_joined, beside_live}
use Rattle.vx_shared.proofs.sharing.merge.Goals as goal

pub join_seat-requires : goal.join_seat-requires
join_seat-requires c = let words = c.requires.board.0 in (
  c.requires.place,
  c.requires.there,
  c.requires.other.empty,
  omega arith,
  joins c.args.seat.now.id c.args.other.id c.args.seat.now.me.0 c.args.other.me.0 c.requires.ready.idle c.requires.ready.some c.requires.other.idle c.requires.other.some,
)

pub load-requires : goal.load-requires
load-requires c =
    let words = c.requires.board.0 in
    let is = c.join_seat.ensures.2 in (
      c.join_seat.ensures.0 ∙ c.requires.place,
      omega arith,
      merges c.args.steps.now.table_id.slots c.join_seat.new.seat.id c.join_seat.new.seat.me (step c.args.steps.now.table_id.slots 0 0 0 none)
          (beside_joined c.args.seat.now.me.0 c.args.other.me.0 c.join_seat.new.seat.me c.args.seat.now.me.1 is)
          (beside_live c.args.seat.now.me.0 c.args.other.me.0 c.join_seat.new.seat.me c.args.seat.now.me.1 c.requires.ready.some is),
    )
