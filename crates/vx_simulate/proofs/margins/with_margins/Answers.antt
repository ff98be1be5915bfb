use Rattle.std.proofs.Common.{◌≡◌, ◌+◌, ◌*◌, ◌++◌, List, length, replicate, ap, subst, sym, ◌∙◌, arith}
use Rattle.vx_plane.specs.Plane.{Page, dark_at}
use Rattle.vx_bits.specs.Packed.{stride_of, packed_page}
use Rattle.vx_simulate.specs.Rows.{in_margins, margined, HoldsRows}
use Rattle.vx_simulate.proofs.Margined.{holds-first, holds-more, held-all, light-above, length-margined, margined-row, page-held}
use Rattle.vx_simulate.proofs.margins.with_margins.Goals as goal

pub loop-y-init : goal.loop-y-init
loop-y-init c =
    let page = c.args.paper.now in
    let rows : c.append_light.new.rows.items ≡ replicate (136 * 264) 0 = c.in_ok-append_light.ensures ∙ ap (λ xs. xs ++ replicate (136 * 264) 0) c.new-rows.ensures.items in
    let Hold : List _ → Type 0 = λ xs. HoldsRows xs (in_margins (dark_at page)) 136 in
    subst Hold (sym rows) (holds-first (in_margins (dark_at page)) 136 (λ x y h. light-above page x y c.height-height.ensures.whole h))

pub row_bytes-requires : goal.row_bytes-requires
row_bytes-requires c =
    let height = ap (λ (p : Page). p.height) c.view.ensures in
    omega (arith, height, c.height-height.ensures.value, c.loop-y-test.true)

pub loop-y-preserved : goal.loop-y-preserved
loop-y-preserved c =
    let page = c.args.paper.now in
    let row = c.row_bytes.result.now in
    let size : length row ≡ 213 = c.row_bytes.ensures.size ∙ ap (λ (p : Page). stride_of p.width) c.view.ensures ∙ ap stride_of c.requires.width in
    let is = rw c.view.ensures at c.row_bytes.ensures.pixels in
    let Hold : List _ → Type 0 = λ xs. HoldsRows xs (in_margins (dark_at page)) (136 + (c.loop-y.y + 1)) in
    let next : 136 + c.loop-y.y + 1 ≡ 136 + (c.loop-y.y + 1) = omega arith in
    subst Hold (sym c.in_ok-append_row.ensures)
    (rw next at (holds-more c.loop-y.rows.items (margined row) (in_margins (dark_at page)) (136 + c.loop-y.y) c.loop-y.invariant (length-margined row size)
    (λ x few. margined-row page row c.loop-y.y x c.height-height.ensures.whole c.requires.width size is few)))

pub from_rows-requires-clause-size : goal.from_rows-requires-clause-size
from_rows-requires-clause-size c =
    let page = c.args.paper.now in
    let end : c.loop-y.y ≡ page.height = omega (arith, c.height-height.ensures.value) in
    let held = held-all page c.loop-y.rows.items c.append_light-2.new.rows.items c.loop-y.y c.height-height.ensures.whole end c.loop-y.invariant c.in_ok-append_light-2.ensures in
    let size : stride_of (c.width.result + 412) ≡ 264 = ap (λ n. stride_of (n + 412)) (c.width.ensures.value ∙ c.requires.width) in
    held.size ∙ ap (λ n. (n + 312) * 264) (sym c.height-height.ensures.value) ∙ ap (λ n. (c.height-height.result + 312) * n) (sym size)

pub returns : goal.returns
returns c =
    let page = c.args.paper.now in
    let end : c.loop-y.y ≡ page.height = omega (arith, c.height-height.ensures.value) in
    let wide : c.width.result + 412 ≡ 2112 = omega (arith, c.width.ensures.value, c.requires.width) in
    let high : c.height-height.result + 312 ≡ page.height + 312 = omega (arith, c.height-height.ensures.value) in
    c.from_rows.ensures
    ∙ ap (λ w. packed_page w (c.height-height.result + 312) c.append_light-2.new.rows.items) wide
    ∙ ap (λ h. packed_page 2112 h c.append_light-2.new.rows.items) high
    ∙ page-held c.append_light-2.new.rows.items (in_margins (dark_at page)) (page.height + 312)
    (held-all page c.loop-y.rows.items c.append_light-2.new.rows.items c.loop-y.y c.height-height.ensures.whole end c.loop-y.invariant c.in_ok-append_light-2.ensures)
