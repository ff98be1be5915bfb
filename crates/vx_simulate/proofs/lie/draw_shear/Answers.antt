use Rattle.std.proofs.Common.{◌≡◌, ℕ, ◌+◌, ap, ◌∙◌, ℤ, pos, ◌-ℤ◌, to_z, of_z, w32, arith}
use Rattle.std.proofs.lemmas.Int.{ints}
use Rattle.rand_pcg.specs.Lcg.{Lcg}
use Rattle.vx_grid.specs.declared.paper.Paper.{Paper}
use Rattle.vx_simulate.specs.Draws.{draw}
use Rattle.vx_simulate.specs.Lie.{shear_to, start_column, start_columns, draw_shear}
use Rattle.vx_simulate.proofs.lie.draw_shear.Goals as goal

-- a shear whose slopes and place are drawn one after the other
shear-laid : (paper : Paper) (g ga gb gu : Lcg) (a b : ℤ) (first many u v : ℕ)
    → a ≡ pos (draw 129 g).0 -ℤ pos 64 → ga ≡ (draw 129 g).1
    → b ≡ pos (draw 129 ga).0 -ℤ pos 64 → gb ≡ (draw 129 ga).1
    → first ≡ start_column paper → many ≡ start_columns paper
    → u ≡ (draw many gb).0 → gu ≡ (draw many gb).1 → v ≡ (draw 61 gu).0
    → shear_to paper a b (pos (first + u)) (pos (40 + v)) ≡ (draw_shear paper g).0
shear-laid paper g ga gb gu a b first many u v slope_a next_a slope_b next_b first_is many_is column next_u row =
    let d1 : Lcg = (draw 129 g).1 in
    let d2 : Lcg = (draw 129 d1).1 in
    let d3 : Lcg = (draw (start_columns paper) d2).1 in
    let a' : ℤ = pos (draw 129 g).0 -ℤ pos 64 in
    let b' : ℤ = pos (draw 129 d1).0 -ℤ pos 64 in
    let u' : ℕ = (draw (start_columns paper) d2).0 in
    let second : b ≡ b' = slope_b ∙ ap (λ (s : Lcg). pos (draw 129 s).0 -ℤ pos 64) next_a in
    let to_b : gb ≡ d2 = next_b ∙ ap (λ (s : Lcg). (draw 129 s).1) next_a in
    let third : u ≡ u' = column ∙ ap (λ (m : ℕ). (draw m gb).0) many_is ∙ ap (λ (s : Lcg). (draw (start_columns paper) s).0) to_b in
    let to_u : gu ≡ d3 = next_u ∙ ap (λ (m : ℕ). (draw m gb).1) many_is ∙ ap (λ (s : Lcg). (draw (start_columns paper) s).1) to_b in
    let fourth : v ≡ (draw 61 d3).0 = row ∙ ap (λ (s : Lcg). (draw 61 s).0) to_u in
    ap (λ (z : ℤ). shear_to paper z b (pos (first + u)) (pos (40 + v))) slope_a
    ∙ ap (λ (z : ℤ). shear_to paper a' z (pos (first + u)) (pos (40 + v))) second
    ∙ ap (λ (n : ℕ). shear_to paper a' b' (pos (n + u)) (pos (40 + v))) first_is
    ∙ ap (λ (n : ℕ). shear_to paper a' b' (pos (start_column paper + n)) (pos (40 + v))) third
    ∙ ap (λ (n : ℕ). shear_to paper a' b' (pos (start_column paper + u')) (pos (40 + n))) fourth

pub returns-clause-shear : goal.returns-clause-shear
returns-clause-shear c =
    let a : to_z w32 (of_z w32 c.draw_slope-a.result) ≡ c.draw_slope-a.result = omega (arith, ints, c.draw_slope-a.ensures.within.low, c.draw_slope-a.ensures.within.high) in
    let b : to_z w32 (of_z w32 c.draw_slope-b.result) ≡ c.draw_slope-b.result = omega (arith, ints, c.draw_slope-b.ensures.within.low, c.draw_slope-b.ensures.within.high) in
    c.shear_to.ensures.shear
    ∙ shear-laid c.args.paper c.args.rng.now c.draw_slope-a.new.rng c.draw_slope-b.new.rng c.draw.new.rng _ _ c.start_columns-first.result.0 c.start_columns-first.result.1 c.draw.result c.draw-v.result
    (a ∙ c.draw_slope-a.ensures.slope) c.draw_slope-a.ensures.next (b ∙ c.draw_slope-b.ensures.slope) c.draw_slope-b.ensures.next
    c.start_columns-first.ensures.first c.start_columns-first.ensures.many c.draw.ensures.number c.draw.ensures.next c.draw-v.ensures.number
