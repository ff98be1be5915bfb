use Rattle.std.proofs.Common.{◌≡◌, ◌<◌, sym, ◌∙◌, arith}
use Rattle.vx_simulate.proofs.Zoned.{zones-one, zones-none}
use Rattle.vx_simulate.proofs.scan_flips.is_in_any_zone.Goals as goal

pub returns-then-is_in_box_zone : goal.returns-then-is_in_box_zone
returns-then-is_in_box_zone c =
    let few : c.loop-n.n < 84 = omega arith in
    sym (zones-one c.args.paper c.loop-n.n c.args.place.u c.args.place.v few (sym c.is_in_box_zone.ensures ∙ c.if-is_in_box_zone.true))

pub returns : goal.returns
returns c =
    let all : c.loop-n.n ≡ 84 = omega arith in
    sym (zones-none c.args.paper c.loop-n.n c.args.place.u c.args.place.v all c.loop-n.invariant)
