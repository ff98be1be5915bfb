use Rattle.std.proofs.Common.{◌*◌, ◌+◌, ℕ, ap₂, arith, sym, subst, ◌∙◌}
use Rattle.vx_plane.specs.Plane.{Page}
use Rattle.vx_pbm.proofs.Plains.{Filled, filled_pixel, filled_space, whole_raster}
use Rattle.vx_pbm.proofs.plain.fill.Goals as goal
use Rattle.vx_pbm.proofs.plain.fill.Goals.{then-is_pixel, else-is_pixel+else-not-is_space}

pub returns-then-have-need-clause-exact : goal.returns-then-have-need-clause-exact
returns-then-have-need-clause-exact c =
    whole_raster _ _ _ _ _ _ _ _ _ (ap₂ (λ h w. h * w) c.height.ensures.value c.width.ensures.value) c.if-have-need.true c.loop-i.invariant

pub loop-i-preserved : goal.loop-i-preserved
loop-i-preserved c =
    let After : Page → ℕ → Type 0 = Filled c.args.page.now.width c.args.page.now.height c.args.offset (c.height.result * c.width.result) c.args.raster.now (c.loop-i.i + 1) in
    elim c.if-is_pixel.branch [
      | then-is_pixel w ↦
          subst (After c.if-is_pixel.page) (sym w.have-is)
          (filled_pixel _ _ _ _ _ _ c.loop-i.page c.if-is_pixel.page _ (omega arith) c.loop-i-test.true c.if-have-need.false (sym c.is_pixel.ensures ∙ w.if-is_pixel.true) c.loop-i.invariant (w.page-is ∙ w.put.ensures))
      | else-is_pixel+else-not-is_space w ↦
          subst (After c.if-is_pixel.page) (sym w.have-is)
          (subst (λ (p : Page). After p c.loop-i.have) (sym w.page-is)
          (filled_space _ _ _ _ _ _ _ _ c.loop-i-test.true c.if-have-need.false (sym c.is_pixel.ensures ∙ w.if-is_pixel.false) (sym w.is_space.ensures ∙ w.if-not-is_space.false) c.loop-i.invariant))
    ]
