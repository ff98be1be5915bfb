use Rattle.std.proofs.Common.{◌-◌, ◌<◌, ◌^◌, arith, rules, pow_pos}
use Rattle.vx_bits.proofs.Filling.{shifted, mask_order, mask_small, mask_bit}
use Rattle.vx_bits.proofs.run.mask.Goals as goal

pub overflow_sub-result : goal.overflow_sub-result
overflow_sub-result c = rw (shifted (8 - c.args.first) (omega arith), shifted (8 - c.args.last) (omega arith)) (mask_order c.args.first c.args.last c.requires.order)

pub overflow_cast-result : goal.overflow_cast-result
overflow_cast-result c =
    let small : 2 ^ (8 - c.args.first) - 2 ^ (8 - c.args.last) < 256 = mask_small c.args.first (2 ^ (8 - c.args.last)) (pow_pos (8 - c.args.last)) in
    rw (shifted (8 - c.args.first) (omega arith), shifted (8 - c.args.last) (omega arith)) (search rules)

pub returns : goal.returns
returns c = λ i h. rw (shifted (8 - c.args.first) (omega arith), shifted (8 - c.args.last) (omega arith)) (mask_bit c.args.first c.args.last i c.requires.order c.requires.end h)
