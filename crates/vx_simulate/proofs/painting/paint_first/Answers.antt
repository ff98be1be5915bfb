use Rattle.std.proofs.Common.{◌≡◌, ◌<◌, ◌+◌, ◌-◌, min, refl, ap, ◌∙◌, pos, arith}
use Rattle.vx_plane.specs.Plane.{rectangle, painted, placed, in_any}
use Rattle.vx_simulate.specs.declared.ink.Ink.TheVariants.{FirstPixels}
use Rattle.vx_simulate.specs.Inside.{stretch_of}
use Rattle.vx_simulate.specs.Ink.{ink_pixels}
use Rattle.vx_simulate.proofs.Laid.{laid-none, laid-more, laid-same}
use Rattle.vx_simulate.proofs.Insides.{above, above-none, above-more, cut, cuts-ink, placed-more}
use Rattle.vx_simulate.proofs.painting.paint_first.Goals as goal

pub loop-row-init : goal.loop-row-init
loop-row-init c = record {
  left = omega (arith, above-none);
  so_far = laid-none c.args.page.now (placed (pos c.args.x) (pos c.args.y) (in_any 0 (cut c.args.n))) c.width-columns.ensures.whole (λ u v. refl);
}

pub loop-row-preserved : goal.loop-row-preserved
loop-row-preserved c =
    let row = c.loop-row.row in
    let few : row < 26 = omega arith in
    let more = above-more row few in
    let left : c.loop-row.many ≡ c.args.n - above row = c.loop-row.invariant.left in
    let x : c.from.result ≡ 20 = c.from.ensures in
    let y : c.from-2.result ≡ 13 = c.from-2.ensures in
    record {
      left = omega (arith, left, more, c.paint_row-many.ensures.many);
      so_far =
          laid-more c.args.page.now c.loop-row.page _ (placed (pos c.args.x) (pos c.args.y) (in_any row (cut c.args.n)))
          (rectangle (pos (c.args.x - c.from.result + (stretch_of row).first)) (pos (c.args.y - c.from-2.result + row)) (min (c.args.n - above row) (stretch_of row).width) 1)
          (placed (pos c.args.x) (pos c.args.y) (in_any (row + 1) (cut c.args.n)))
          c.loop-row.invariant.so_far
          (c.paint_row-many.ensures.painted ∙ ap (λ m. painted c.loop-row.page (rectangle (pos (c.args.x - c.from.result + (stretch_of row).first)) (pos (c.args.y - c.from-2.result + row)) (min m (stretch_of row).width) 1)) left)
          (λ u v. placed-more c.args.x c.args.y c.args.n row (c.args.x - c.from.result) (c.args.y - c.from-2.result) u v (omega (arith, x, c.requires.across.0)) (omega (arith, y, c.requires.down.0)));
    }

pub returns : goal.returns
returns c =
    let all : c.loop-row.row ≡ 26 = omega arith in
    laid-same c.args.page.now c.loop-row.page (placed (pos c.args.x) (pos c.args.y) (in_any 26 (cut c.args.n))) (placed (pos c.args.x) (pos c.args.y) (ink_pixels (FirstPixels c.args.n)))
    (c.loop-row.invariant.so_far ∙ ap (λ n. painted c.args.page.now (placed (pos c.args.x) (pos c.args.y) (in_any n (cut c.args.n)))) all)
    (λ u v. cuts-ink c.args.n _ _)
