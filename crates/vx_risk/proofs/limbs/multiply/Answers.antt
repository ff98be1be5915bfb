use Rattle.std.proofs.Common.{◌≡◌, ◌*◌, ◌^◌, ◌++◌, [], ◌∷◌, ℕ, List, length, ap, sym, ◌∙◌, arith}
use Rattle.std.proofs.lemmas.List.{with_items_is}
use Rattle.vx_risk.specs.Limbs.{number_of}
use Rattle.vx_risk.proofs.Numerals.{number_in-above_none}
use Rattle.vx_risk.proofs.limbs.multiply.Goals as goal

pub returns-else-carry-gt0 : goal.returns-else-carry-gt0
returns-else-carry-gt0 c =
    let kept : length c.multiply_limbs-carry.new.limbs ≡ c.args.limbs.now.len =
    omega (arith, c.multiply_limbs-carry.auto.limbs, c.as_mut_slice.ensures.len) in
    ap (λ (limbs : List ℕ). number_of limbs) (with_items_is c.args.limbs.now c.multiply_limbs-carry.new.limbs kept)
    ∙ sym (number_in-above_none (2 ^ 64) c.multiply_limbs-carry.new.limbs)
    ∙ ap (λ (carry : ℕ). number_of (c.multiply_limbs-carry.new.limbs ++ carry ∷ [])) (omega (arith, c.if-carry-gt0.false))
    ∙ c.multiply_limbs-carry.ensures
    ∙ ap (λ (limbs : List ℕ). c.args.factor * number_of limbs) c.as_mut_slice.ensures.value
