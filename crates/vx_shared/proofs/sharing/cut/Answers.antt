use Rattle.std.proofs.Common.{arith, ◌<◌, ◌≤◌}
use Rattle.vx_shared.proofs.Parting.{splits}
use Rattle.vx_shared.proofs.sharing.cut.Goals as goal

pub split_seat-requires : goal.split_seat-requires
split_seat-requires g c =
    let words = c.requires.board.0 in
    let shares = c.requires.picked.0 in
    let calls = c.requires.picked.1 in
    let some : 0 < g.N.Portion.shares = omega (arith, shares, c.requires.some) in
    let fewer : g.N.Portion.shares < c.args.seat.now.me.0.shares = omega (arith, shares, c.requires.fewer) in
    let few : g.N.Portion.calls ≤ c.args.seat.now.me.0.calls = omega (arith, calls, c.requires.few) in (
      c.requires.place,
      omega arith,
      splits c.args.seat.now.id c.args.seat.now.me.0 g.N.Portion.shares g.N.Portion.calls c.requires.ready.idle some fewer few,
    )
