-- A shear's own moves, as those of its slant.
use Rattle.std.proofs.Common.{◌≡◌, ◌∙◌, ap, sym, arith, ℤ, pos, ◌+ℤ◌, ◌*ℤ◌}
use Rattle.std.proofs.lemmas.Int.{ints}
use Rattle.vx_geom.specs.declared.shear.Shear.{Shear}
use Rattle.vx_geom.specs.Slants.{whole_of, down_by, right_by, slant_of}

pub down_by-shear : (shear : Shear) (x rise : ℤ) → rise ≡ whole_of (shear.b *ℤ x) → shear.sy +ℤ rise ≡ down_by (slant_of shear) x
unfolding down_by
down_by-shear shear x rise is =
    let none : (shear.b *ℤ x) +ℤ pos 0 ≡ shear.b *ℤ x = omega (arith, ints) in
    ap (λ z. shear.sy +ℤ z) (is ∙ ap whole_of (sym none))

pub right_by-shear : (shear : Shear) (v rise : ℤ) → rise ≡ whole_of (shear.a *ℤ v) → shear.sx +ℤ rise ≡ right_by (slant_of shear) v
unfolding right_by
right_by-shear shear v rise is =
    let none : (shear.a *ℤ v) +ℤ pos 0 ≡ shear.a *ℤ v = omega (arith, ints) in
    ap (λ z. shear.sx +ℤ z) (is ∙ ap whole_of (sym none))

pub same_product : (a b c d : ℤ) → a ≡ c → b ≡ d → a *ℤ b ≡ c *ℤ d
same_product a b c d e f = ap (λ z. z *ℤ b) e ∙ ap (λ z. c *ℤ z) f
