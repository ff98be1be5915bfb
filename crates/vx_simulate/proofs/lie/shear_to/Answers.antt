use Rattle.std.proofs.Common.{◌≡◌, ℕ, ◌≤◌, ap, ◌∙◌, ℤ, pos, ◌-ℤ◌, ◌*ℤ◌, to_z, of_z, w32, arith}
use Rattle.std.proofs.lemmas.Int.{ints}
use Rattle.vx_grid.specs.Paper.{first_y}
use Rattle.vx_geom.specs.declared.shear.Shear.{Shear}
use Rattle.vx_geom.specs.Slants.{whole_of}
use Rattle.vx_grid.specs.Places.{IsWithin}
use Rattle.vx_simulate.proofs.lie.shear_to.Goals as goal

abbrev shear_from : ℤ → ℤ → ℤ → ℤ → Shear
shear_from sx sy a b = record { sx = sx; sy = sy; a = a; b = b }

shear-same : (sx sx' sy sy' a a' b b' : ℤ) → sx ≡ sx' → sy ≡ sy' → a ≡ a' → b ≡ b' → shear_from sx sy a b ≡ shear_from sx' sy' a' b'
shear-same sx sx' sy sy' a a' b b' e f h k =
    ap (λ z. shear_from z sy a b) e ∙ ap (λ z. shear_from sx' z a b) f ∙ ap (λ z. shear_from sx' sy' z b) h ∙ ap (λ z. shear_from sx' sy' a' z) k

pub returns-clause-shear : goal.returns-clause-shear
returns-clause-shear c =
    let u : to_z w32 c.args.u ≡ pos c.args.u = omega (arith, ints) in
    let v : to_z w32 c.args.v ≡ pos c.args.v = omega (arith, ints) in
    let a : to_z w32 (of_z w32 c.args.a) ≡ c.args.a = omega (arith, ints, c.requires.a.low, c.requires.a.high) in
    let b : to_z w32 (of_z w32 c.args.b) ≡ c.args.b = omega (arith, ints, c.requires.b.low, c.requires.b.high) in
    let right : c.rise-right.result ≡ whole_of (c.args.a *ℤ pos c.args.v) =
    c.rise-right.ensures.value ∙ ap (λ z. whole_of (z *ℤ to_z w32 c.args.v)) a ∙ ap (λ z. whole_of (c.args.a *ℤ z)) v in
    let down : c.rise-down.result ≡ whole_of (c.args.b *ℤ pos 58) = c.rise-down.ensures.value ∙ ap (λ z. whole_of (z *ℤ pos 58)) b in
    let sx : to_z w32 (of_z w32 c.way.result) ≡ (pos c.args.u -ℤ pos 58) -ℤ whole_of (c.args.a *ℤ pos c.args.v) =
    omega (arith, ints, c.way.ensures.value, c.way.ensures.bound.low, c.way.ensures.bound.high, u, right, c.rise-right.ensures.bound.low, c.rise-right.ensures.bound.high) in
    let sy : to_z w32 (of_z w32 c.way-2.result) ≡ (pos c.args.v -ℤ pos (first_y c.args.paper)) -ℤ whole_of (c.args.b *ℤ pos 58) =
    omega (arith, ints, c.way-2.ensures.value, c.way-2.ensures.bound.low, c.way-2.ensures.bound.high, v, down, c.rise-down.ensures.bound.low, c.rise-down.ensures.bound.high, c.first_row.ensures.row, c.first_row.ensures.low, c.first_row.ensures.high) in
    shear-same _ _ _ _ _ _ _ _ sx sy a b

-- a short way rises little, from whatever number of 32 bits
short-rise : (z : ℤ) → IsWithin 5 z → IsWithin 5 (to_z w32 (of_z w32 z))
short-rise z h = record { low = omega (arith, ints, h.low, h.high); high = omega (arith, ints, h.low, h.high) }

near-way : (u : ℕ) → u ≤ 112 → IsWithin 200 (to_z w32 u)
near-way u few = record { low = omega (arith, ints, few); high = omega (arith, ints, few) }

pub way-requires-clause-rise : goal.way-requires-clause-rise
way-requires-clause-rise c = short-rise c.rise-right.result (c.rise-right.ensures.short (near-way c.args.v (omega arith)))
