use Rattle.std.proofs.Common.{◌*◌, ◌^◌, ◌∙◌, arith}
use Rattle.vx_risk.specs.Limbs.{number_of}
use Rattle.vx_risk.proofs.Numerals.{multiplied-more, multiplied-all}
use Rattle.vx_risk.proofs.limbs.multiply_limbs.Goals as goal

pub loop-limb-preserved : goal.loop-limb-preserved
loop-limb-preserved c =
    multiplied-more (2 ^ 64) c.args.factor c.loop-limb.carry c.carrying_mul-low.result.0 c.carrying_mul-low.result.1 c.loop-limb.limbs c.loop-limb.limb-index
    (omega (arith, c.loop-limb-test.true)) c.carrying_mul-low.ensures
    ∙ c.loop-limb.invariant

pub returns : goal.returns
returns c =
    multiplied-all (2 ^ 64) c.args.factor c.loop-limb.carry c.loop-limb.limbs c.loop-limb.limb-index (c.args.factor * number_of c.args.limbs.now)
    (omega (arith, c.loop-limb-test.false)) c.loop-limb.invariant
