use Rattle.std.proofs.Common.{◌≡◌, ◌∙◌, ◌*◌, ap, sym, subst, arith, ℤ, pos, ◌*ℤ◌, to_z, of_z, w32}
use Rattle.std.proofs.lemmas.Int.{ints}
use Rattle.std.specs.Int.{int_div_euclid}
use Rattle.vx_grid.specs.Places.{IsWithin}
use Rattle.vx_geom.specs.Slants.{whole_of}
use Rattle.vx_geom.proofs.Products.{product-within}
use Rattle.vx_geom.proofs.Floors.{whole_of-is, whole-within}
use Rattle.vx_geom.proofs.shear.rise.Goals as goal

parts-are : (c : goal.After-div_euclid) → to_z w32 (of_z w32 (to_z w32 (of_z w32 c.args.slope) *ℤ to_z w32 (of_z w32 c.args.along))) ≡ c.args.slope *ℤ c.args.along
parts-are c =
    let slope : to_z w32 (of_z w32 c.args.slope) ≡ c.args.slope = omega (arith, ints) in
    let along : to_z w32 (of_z w32 c.args.along) ≡ c.args.along = omega (arith, ints) in
    let same : to_z w32 (of_z w32 c.args.slope) *ℤ to_z w32 (of_z w32 c.args.along) ≡ c.args.slope *ℤ c.args.along =
    ap (λ z. z *ℤ to_z w32 (of_z w32 c.args.along)) slope ∙ ap (λ z. c.args.slope *ℤ z) along in
    let within : IsWithin (64 * 30000) (c.args.slope *ℤ c.args.along) = product-within 64 30000 _ _ c.requires.slope c.requires.along in
    ap (λ z. to_z w32 (of_z w32 z)) same ∙ omega (arith, ints, within.low, within.high)

whole-is : (c : goal.After-div_euclid) → c.div_euclid.result ≡ whole_of (c.args.slope *ℤ c.args.along)
unfolding whole_of
whole-is c = c.div_euclid.ensures ∙ ap (λ z. int_div_euclid z (pos 4096)) (parts-are c)

whole-bound : (c : goal.After-div_euclid) → IsWithin 500 c.div_euclid.result
whole-bound c =
    let within : IsWithin (64 * 30000) (c.args.slope *ℤ c.args.along) = product-within 64 30000 _ _ c.requires.slope c.requires.along in
    let Within : ℤ → Type 0 = λ z. IsWithin 500 z in
    subst Within (sym (whole-is c)) (whole-within _ within)

as-it-is : (c : goal.After-div_euclid) → to_z w32 (of_z w32 c.div_euclid.result) ≡ c.div_euclid.result
as-it-is c = let bound = whole-bound c in omega (arith, ints, bound.low, bound.high)

pub returns-clause-value : goal.returns-clause-value
returns-clause-value c = as-it-is c ∙ whole-is c

pub returns-clause-bound : goal.returns-clause-bound
returns-clause-bound c =
    let Within : ℤ → Type 0 = λ z. IsWithin 500 z in
    subst Within (sym (as-it-is c)) (whole-bound c)

whole-few : (z : ℤ) → IsWithin (64 * 200) z → IsWithin 5 (whole_of z)
whole-few z h =
    let f = whole_of-is z in
    record { low = omega (arith, ints, f.low, f.high, h.low, h.high); high = omega (arith, ints, f.low, f.high, h.low, h.high) }

pub returns-clause-short : goal.returns-clause-short
returns-clause-short c = λ along.
    let Within : ℤ → Type 0 = λ z. IsWithin 5 z in
    subst Within (sym (as-it-is c ∙ whole-is c)) (whole-few _ (product-within 64 200 _ _ c.requires.slope along))
