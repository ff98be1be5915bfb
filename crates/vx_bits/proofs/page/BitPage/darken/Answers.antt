use Rattle.std.proofs.Common.{◌≡◌, ◌+◌, ◌≤◌, ◌<◌, ◌⊎◌, ⊎_elim, min, sym, ◌∙◌, inl, inr, arith}
use Rattle.vx_bits.proofs.Clipping.{painted-clipped, painted-beside}
use Rattle.vx_bits.proofs.page.BitPage.darken.Goals as goal

pub returns-then-top-bottom : goal.returns-then-top-bottom
returns-then-top-bottom c =
    let right : c.min-right.result ≡ min (c.args.left + c.args.width) c.args.self.now.width = omega arith in
    let bottom : c.min-bottom.result ≡ min (c.args.top + c.args.height) c.args.self.now.height = omega arith in
    c.darken_rows.ensures
    ∙ painted-clipped c.args.self.now c.args.left c.args.top c.args.width c.args.height c.min-right.result c.min-bottom.result right bottom c.if-left-right.true c.if-top-bottom.true

pub returns-else-left-right : goal.returns-else-left-right
returns-else-left-right c =
    let right : c.min-right.result ≡ min (c.args.left + c.args.width) c.args.self.now.width = omega arith in
    let bottom : c.min-bottom.result ≡ min (c.args.top + c.args.height) c.args.self.now.height = omega arith in
    let away : (min (c.args.left + c.args.width) c.args.self.now.width ≤ c.args.left) ⊎ (min (c.args.top + c.args.height) c.args.self.now.height ≤ c.args.top) =
    ⊎_elim (λ (below : (c.args.left < c.min-right.result) × (c.min-bottom.result ≤ c.args.top)). inr (omega (arith, below.1))) (λ (beside : c.min-right.result ≤ c.args.left). inl (omega arith)) c.else-left-right.either in
    sym (painted-beside c.args.self.now c.args.left c.args.top c.args.width c.args.height c.width.ensures.whole away)
