use Rattle.std.proofs.Common.{◌≡◌, ◌+◌, ◌≤◌, List, ℤ, ap, ◌∙◌, arith, rules}
use Rattle.std.proofs.lemmas.Result.{IfOk-weaker}
use Rattle.vx_plane.specs.Plane.{Page, page_of, dark_at}
use Rattle.vx_grid.specs.declared.paper.Paper.{Paper}
use Rattle.vx_grid.specs.declared.paper.Paper.TheVariants.{Letter, Legal}
use Rattle.vx_grid.specs.Paper.{page_height}
use Rattle.vx_simulate.specs.declared.ink.Ink.{Ink}
use Rattle.vx_simulate.specs.Lie.{frame_height}
use Rattle.vx_simulate.specs.Ink.{inked}
use Rattle.vx_simulate.proofs.Papers.{paper-shows}
use Rattle.vx_simulate.proofs.Scanning.{scan-is}
use Rattle.vx_simulate.proofs.simulated.scan_page.Goals as goal

page-low : (paper : Paper) → page_height paper ≤ 2800
page-low Letter = omega arith
page-low Legal = omega arith

frame-low : (paper : Paper) → frame_height paper ≤ page_height paper + 40
frame-low Letter = omega arith
frame-low Legal = omega arith

pub sheared_rows-requires : goal.sheared_rows-requires
sheared_rows-requires g c =
    let size : c.in_ok-paper.paper.height ≡ page_height c.args.plan.now.paper = ap (λ (p : Page). p.height) c.in_ok-paper.ensures ∙ ap (λ (p : Page). p.height) c.requires.whole in
    let frame : c.in_ok-flips.flips.height ≡ frame_height c.args.plan.now.paper = ap (λ (p : Page). p.height) c.in_ok-flips.ensures in (
      search rules,
      (
        c.requires.short,
        (
          ap (λ (p : Page). p.width) c.in_ok-paper.ensures ∙ ap (λ (p : Page). p.width) c.requires.whole,
          (
            omega (arith, size, page-low c.args.plan.now.paper),
            (ap (λ (p : Page). p.width) c.in_ok-flips.ensures, omega (arith, size, frame, frame-low c.args.plan.now.paper)),
          ),
        ),
      ),
    )

pub returns : goal.returns
returns g c =
    let plan = c.args.plan.now in
    let page : Page = c.args.page.now in
    let it = c.args.drawn.now in
    let paper : Page = c.in_ok-paper.paper in
    let flips : Page = c.in_ok-flips.flips in
    let is : paper ≡ page_of page.width page.height (inked plan it.inks (dark_at page)) =
    c.in_ok-paper.ensures ∙ ap (λ (inks : List Ink). page_of page.width page.height (inked plan inks (dark_at page))) c.as_slice.ensures in
    let shows : (x y : ℤ) → dark_at paper x y ≡ inked plan it.inks (dark_at page) x y =
    λ x y. ap (λ (p : Page). dark_at p x y) is ∙ paper-shows plan it.inks page c.requires.grid c.requires.whole x y in
    IfOk-weaker c.sheared_rows.result _ _ (λ scan made. scan-is plan (dark_at page) it paper flips scan shows c.in_ok-flips.ensures made) c.sheared_rows.ensures
