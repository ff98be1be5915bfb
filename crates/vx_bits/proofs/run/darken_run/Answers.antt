use Rattle.std.proofs.Common.{◌≡◌, ◌<◌, ◌+◌, ◌-◌, ◌*◌, ◌/◌, ◌%◌, arith}
use Rattle.vx_bits.proofs.Filling.{both_masks, Filled-first, Filled-more, Filled-all, Filled-last, whole_mask}
use Rattle.vx_bits.proofs.run.darken_run.Goals as goal

pub returns-then-first-last : goal.returns-then-first-last
returns-then-first-last c =
    Filled-all c.add_bits.new.rows c.args.rows.now (8 * c.args.start + c.args.run.left) (8 * c.args.start + c.args.run.right) (c.args.start + c.args.run.left / 8 + 1)
    (Filled-first c.args.rows.now c.add_bits.new.rows c.args.start c.args.run.left c.args.run.right (c.args.run.right - 8 * ((c.args.run.right - 1) / 8)) _ c.requires.run.some (omega (arith, c.if-first-last.true, c.requires.run.some)) (omega (arith, c.requires.run.some, c.requires.inside)) c.add_bits.ensures
    (both_masks c.args.run.first_bits c.args.run.last_bits (c.args.run.left % 8) (c.args.run.right - 8 * ((c.args.run.right - 1) / 8)) c.requires.run.first c.requires.run.last))
    (omega (arith, c.if-first-last.true, c.requires.run.some))

pub loop-k-init : goal.loop-k-init
loop-k-init c =
    Filled-first c.args.rows.now c.add_bits-2.new.rows c.args.start c.args.run.left c.args.run.right 8 c.args.run.first_bits c.requires.run.some (omega (arith, c.if-first-last.false, c.requires.run.some)) (omega (arith, c.requires.run.some, c.requires.inside)) c.add_bits-2.ensures c.requires.run.first

pub loop-k-preserved : goal.loop-k-preserved
loop-k-preserved c =
    Filled-more c.loop-k.rows c.args.rows.now c.add_bits-in-loop-k.new.rows (8 * c.args.start + c.args.run.left) (8 * c.args.start + c.args.run.right) c.loop-k.k 0 8 255 c.loop-k.invariant c.add_bits-in-loop-k.ensures
    (omega (arith, c.loop-k-test.true, c.requires.inside)) (omega (arith, c.loop-k.auto.k)) (omega (arith, c.loop-k-test.true)) (omega (arith, c.loop-k.auto.k)) (omega (arith, c.loop-k-test.true)) whole_mask

pub returns : goal.returns
returns c =
    let at : c.loop-k.k ≡ c.args.start + (c.args.run.right - 1) / 8 = omega (arith, c.loop-k-test.false, c.loop-k.auto.k-end, c.if-first-last.false, c.requires.run.some) in
    let apart : c.args.run.left / 8 < (c.args.run.right - 1) / 8 = omega (arith, c.if-first-last.false, c.requires.run.some) in
    Filled-last c.args.rows.now c.loop-k.rows c.add_bits-3.new.rows c.args.start c.args.run.left c.args.run.right c.loop-k.k c.args.run.last_bits at apart (omega (arith, at, c.requires.inside))
    c.loop-k.invariant (rw at c.add_bits-3.ensures) c.requires.run.last
