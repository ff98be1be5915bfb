use Rattle.std.proofs.Common.{ℤ, ◌-ℤ◌, ◌+ℤ◌, subst, sym, arith, ap, ◌∙◌, ◌≡◌, to_z, of_z, w32}
use Rattle.std.proofs.lemmas.Int.{ints}
use Rattle.vx_grid.specs.Places.{IsWithin}
use Rattle.vx_fit.specs.Fit.{part_of}
use Rattle.vx_fit.proofs.Parts.{between_within}
use Rattle.vx_fit.proofs.fit.between.Goals as goal

pub overflow_add-result : goal.overflow_add-result
overflow_add-result c =
    let far : to_z w32 (of_z w32 c.distance.result) ≡ c.args.b -ℤ c.args.a = omega (arith, ints) in
    let part : c.part.result ≡ part_of (c.args.b -ℤ c.args.a) c.args.steps = c.part.ensures ∙ ap (λ d. part_of d c.args.steps) far in
    let within : IsWithin 9000 (c.args.a +ℤ c.part.result) = between_within c.args.a c.args.b c.part.result c.args.steps c.requires.steps c.requires.a c.requires.b part in
    omega (arith, ints, within.low, within.high)

pub returns-clause-value : goal.returns-clause-value
returns-clause-value c =
    let far : to_z w32 (of_z w32 c.distance.result) ≡ c.args.b -ℤ c.args.a = omega (arith, ints) in
    let part : c.part.result ≡ part_of (c.args.b -ℤ c.args.a) c.args.steps = c.part.ensures ∙ ap (λ d. part_of d c.args.steps) far in
    let within : IsWithin 9000 (c.args.a +ℤ c.part.result) = between_within c.args.a c.args.b c.part.result c.args.steps c.requires.steps c.requires.a c.requires.b part in
    let sum : to_z w32 (of_z w32 (to_z w32 (of_z w32 c.args.a) +ℤ to_z w32 (of_z w32 c.part.result))) ≡ c.args.a +ℤ c.part.result = omega (arith, ints, within.low, within.high) in
    sum ∙ ap (λ z. c.args.a +ℤ z) part

pub returns-clause-bound : goal.returns-clause-bound
returns-clause-bound c =
    let far : to_z w32 (of_z w32 c.distance.result) ≡ c.args.b -ℤ c.args.a = omega (arith, ints) in
    let part : c.part.result ≡ part_of (c.args.b -ℤ c.args.a) c.args.steps = c.part.ensures ∙ ap (λ d. part_of d c.args.steps) far in
    let within : IsWithin 9000 (c.args.a +ℤ c.part.result) = between_within c.args.a c.args.b c.part.result c.args.steps c.requires.steps c.requires.a c.requires.b part in
    let sum : to_z w32 (of_z w32 (to_z w32 (of_z w32 c.args.a) +ℤ to_z w32 (of_z w32 c.part.result))) ≡ c.args.a +ℤ c.part.result = omega (arith, ints, within.low, within.high) in
    let Within : ℤ → Type 0 = λ z. IsWithin 9000 z in
    subst Within (sym sum) within
