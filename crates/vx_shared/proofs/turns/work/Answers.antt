use Rattle.std.proofs.Common.{ap, ◌∙◌, None}
use Rattle.atomic_table.specs.Table.{rest}
use Rattle.vx_shared.specs.Plays.{Sat}
use Rattle.vx_shared.specs.Seats.{slot, hand_log}
use Rattle.vx_shared.proofs.Joining.{only_slot, first_slot}
use Rattle.vx_shared.proofs.turns.work.Goals as goal

pub exchange-requires : goal.exchange-requires
exchange-requires c = (
  c.requires.place,
  (slot c.args.seat.now.me.0.origin (hand_log c.args.seat.now.me.1), only_slot c.args.seat.now.me.1 (slot c.args.seat.now.me.0.origin (hand_log c.args.seat.now.me.1)) c.requires.holds),
)

pub exchange-requires-2 : goal.exchange-requires-2
exchange-requires-2 c = (
  c.exchange.ensures.0 ∙ c.requires.place,
  (None, first_slot c.exchange.new.seat.me.1 (rest c.args.seat.now.me.1) None (ap (λ (m : Sat). m.1) c.exchange.ensures.3)),
)
