use Rattle.std.proofs.Common.{arith, ◌≡◌, ◌<◌, refl, sym, subst, Option, Some, IsSome}
use Rattle.std.specs.Mem.Slots.{slots_items}
use Rattle.vx_shared.specs.Legal.{Stored, stored}
use Rattle.vx_shared.specs.Calls.{view_of}
use Rattle.vx_shared.specs.Seats.{start_of}
use Rattle.vx_shared.proofs.Ending.{IsWhole, HasClosed, whole_pass, taken, closes}
use Rattle.vx_shared.proofs.sharing.SharedCenter.close.Goals as goal

pub unwrap-held-requires : goal.unwrap-held-requires
unwrap-held-requires c =
    let part : 0 < c.args.pass.shares = omega (arith, c.shares.ensures.value, c.shares.ensures.some) in
    let whole : IsWhole (view_of c.args.pass) (slots_items c.close_with-closed.result.slots) = whole_pass c.args.pass c.into_seat-seat.result.id c.into_seat-seat.result.me
    (slots_items c.close_with-closed.result.words) (slots_items c.close_with-closed.result.slots) c.into_seat-seat.ensures.seat part c.requires.all c.close_with-closed.ensures.values.2 in
    let e : c.take.result ≡ Some (stored (start_of c.args.pass.origin) c.args.pass.seen) = taken c.args.pass (slots_items c.close_with-closed.result.slots) c.take.result whole c.take.ensures.value in
    subst (λ (o : Option Stored). IsSome o) (sym e) refl

pub returns : goal.returns
returns c =
    let part : 0 < c.args.pass.shares = omega (arith, c.shares.ensures.value, c.shares.ensures.some) in
    let whole : IsWhole (view_of c.args.pass) (slots_items c.close_with-closed.result.slots) = whole_pass c.args.pass c.into_seat-seat.result.id c.into_seat-seat.result.me
    (slots_items c.close_with-closed.result.words) (slots_items c.close_with-closed.result.slots) c.into_seat-seat.ensures.seat part c.requires.all c.close_with-closed.ensures.values.2 in
    let e : c.take.result ≡ Some (stored (start_of c.args.pass.origin) c.args.pass.seen) = taken c.args.pass (slots_items c.close_with-closed.result.slots) c.take.result whole c.take.ensures.value in
    let u = c.unwrap-held.ensures in
    let held : c.unwrap-held.result ≡ stored (start_of c.args.pass.origin) c.args.pass.seen = cc (e, u) in
    let done : HasClosed c.args.pass c.into_parts.result.0 c.into_parts.result.1 = closes c.args.pass (slots_items c.close_with-closed.result.slots) c.unwrap-held.result c.into_parts.result.0 c.into_parts.result.1 whole held
    c.into_parts.ensures.center c.into_parts.ensures.history c.into_parts.ensures.legal in
    record { history = done.history; legal = done.legal; center = done.center; own = done.own; calls = done.calls }
