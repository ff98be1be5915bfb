use Rattle.std.proofs.Common.{◌≡◌, ◌-ℤ◌, pos, arith, rules, true, SFits, w32, to_z}
use Rattle.std.specs.Int.Signed.{le_z}
use Rattle.std.proofs.lemmas.Int.{ints, to_z-of_z, to_z_pos}
use Rattle.vx_mark.proofs.Places.{room-tests}
use Rattle.vx_mark.proofs.judge.has_room.Goals as goal

pub returns-then-reach-at : goal.returns-then-reach-at
returns-then-reach-at c =
    let fit_at : SFits w32 c.args.at = c.ranges.at in
    let fit_reach : SFits w32 c.args.reach = c.ranges.reach in
    let size : to_z w32 c.args.size ≡ pos c.args.size = to_z_pos w32 c.args.size (omega arith) in
    let fit_end : SFits w32 (pos c.args.size -ℤ c.args.reach) = search (rules, arith, ints) in
    let test : le_z c.args.reach c.args.at ≡ true = simp to_z-of_z at c.if-reach-at.true in
    simp (size, to_z-of_z) (room-tests c.args.reach c.args.at (pos c.args.size -ℤ c.args.reach) test)
