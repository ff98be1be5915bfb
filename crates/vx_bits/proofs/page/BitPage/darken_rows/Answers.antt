use Rattle.std.proofs.Common.{◌≡◌, sym, ap, ap₂, ◌∙◌, pos, ◌+◌, ◌-◌, arith}
use Rattle.vx_plane.specs.Plane.{Page, rectangle, painted}
use Rattle.vx_plane.proofs.Pages.{painted-no_rows, painted-row_more}
use Rattle.vx_bits.proofs.page.BitPage.darken_rows.Goals as goal

pub loop-y-init : goal.loop-y-init
loop-y-init c =
    let none : c.args.top - c.args.top ≡ 0 = omega arith in
    rw none (sym (painted-no_rows c.args.self.now (pos c.args.left) (pos c.args.top) (c.args.right - c.args.left) c.height-rows.ensures.whole))

pub loop-y-preserved : goal.loop-y-preserved
loop-y-preserved c =
    let more : c.loop-y.y + 1 - c.args.top ≡ (c.loop-y.y - c.args.top) + 1 = omega arith in
    let here : c.args.top + (c.loop-y.y - c.args.top) ≡ c.loop-y.y = omega arith in
    rw more (c.darken_row.ensures
    ∙ ap₂ (λ l r. painted c.loop-y.self (rectangle (pos l) (pos c.loop-y.y) (r - l) 1)) c.new-run.ensures.left c.new-run.ensures.right
    ∙ ap (λ (p : Page). painted p (rectangle (pos c.args.left) (pos c.loop-y.y) (c.args.right - c.args.left) 1)) c.loop-y.invariant
    ∙ ap (λ n. painted (painted c.args.self.now (rectangle (pos c.args.left) (pos c.args.top) (c.args.right - c.args.left) (c.loop-y.y - c.args.top))) (rectangle (pos c.args.left) (pos n) (c.args.right - c.args.left) 1)) (sym here)
    ∙ sym (painted-row_more c.args.self.now (pos c.args.left) (pos c.args.top) (c.args.right - c.args.left) (c.loop-y.y - c.args.top)))
