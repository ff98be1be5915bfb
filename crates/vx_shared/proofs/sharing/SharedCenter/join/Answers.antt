use Rattle.std.proofs.Common.{arith, ◌≡◌, ◌+◌, max, length}
use Rattle.vx_shared.proofs.Joining.{merged_seated}
use Rattle.vx_shared.proofs.sharing.SharedCenter.join.Goals as goal

pub of_seat-requires-clause-seated : goal.of_seat-requires-clause-seated
of_seat-requires-clause-seated c =
    let shares : c.shares.result + c.shares-2.result ≡ c.args.keep.shares + c.args.give.shares = omega arith in
    let calls : c.calls_left.result + c.calls_left-2.result ≡ c.args.keep.calls + c.args.give.calls = omega arith in
    let long : c.max-seen.result ≡ max (length c.args.keep.seen) (length c.args.give.seen) = omega (arith, c.max-seen.ensures, c.seen.ensures.value, c.seen-2.ensures.value) in
    merged_seated c.args.keep c.args.give c.into_seat-seat.result.me c.into_seat-other.result.me c.merge.new.seat.me
    (c.shares.result + c.shares-2.result) (c.calls_left.result + c.calls_left-2.result) c.max-seen.result shares calls long
    c.into_seat-seat.ensures.seat c.into_seat-other.ensures.seat (omega arith) c.seen.ensures.legal c.seen-2.ensures.legal c.merge.ensures.merged
