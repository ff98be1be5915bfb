use Rattle.std.proofs.Common.{◌≡◌, ◌+◌, ◌*◌, ◌^◌, take, drop}
use Rattle.vx_risk.specs.Limbs.{number_of}
use Rattle.vx_risk.proofs.Numerals.{number_above}
use Rattle.vx_risk.proofs.limbs.multiply_limbs.Given as goal

-- what is multiplied so far, and on top of it what is carried and the product of the rest
abbrev pub invariant-loop-limb : goal.invariant-loop-limb
invariant-loop-limb l =
    number_above (2 ^ 64) (take l.limb-index l.limbs) (l.carry + l.factor * number_of (drop l.limb-index l.limbs)) ≡ l.factor * number_of l.fn.limbs
