use Rattle.std.proofs.Common.{◌≡◌, ◌+◌, ◌*◌, List, length, ap, subst, sym, ◌∙◌, arith}
use Rattle.std.proofs.lemmas.List.{with_items_is}
use Rattle.vx_plane.specs.Plane.{Page, page_of, dark_at}
use Rattle.vx_bits.specs.Packed.{stride_of, packed_page}
use Rattle.vx_geom.specs.Slants.{slant_of}
use Rattle.vx_simulate.specs.declared.strips.Strip.{Strip}
use Rattle.vx_simulate.specs.Rows.{in_margins, AreStrips}
use Rattle.vx_simulate.proofs.Margined.{page-holds}
use Rattle.vx_simulate.proofs.ScanRows.{HoldPaper, sheared-page, page-at}
use Rattle.vx_simulate.proofs.sheared.sheared_rows.Goals as goal

pub shear_rows-requires-clause-whole : goal.shear_rows-requires-clause-whole
shear_rows-requires-clause-whole g c =
    let flips = c.args.flips.now in
    let size : length c.as_mut_slice.result.now ≡ flips.height * 225 =
    ap length (c.as_mut_slice.ensures.value ∙ c.in_ok-scan.ensures.items) ∙ c.rows.ensures.size ∙ ap (λ (p : Page). p.height * stride_of p.width) c.view-2.ensures ∙ ap (λ w. flips.height * stride_of w) c.requires.width in
    omega (arith, size)

pub shear_rows-requires-clause-few : goal.shear_rows-requires-clause-few
shear_rows-requires-clause-few g c =
    let flips = c.args.flips.now in
    let size : length c.as_mut_slice.result.now ≡ flips.height * 225 =
    ap length (c.as_mut_slice.ensures.value ∙ c.in_ok-scan.ensures.items) ∙ c.rows.ensures.size ∙ ap (λ (p : Page). p.height * stride_of p.width) c.view-2.ensures ∙ ap (λ w. flips.height * stride_of w) c.requires.width in
    omega (arith, size, c.requires.height, c.requires.paper_height)

pub shear_rows-requires-clause-rows : goal.shear_rows-requires-clause-rows
shear_rows-requires-clause-rows g c =
    let flips = c.args.flips.now in
    let paper = c.args.paper.now in
    let size : length c.as_mut_slice.result.now ≡ flips.height * 225 =
    ap length (c.as_mut_slice.ensures.value ∙ c.in_ok-scan.ensures.items) ∙ c.rows.ensures.size ∙ ap (λ (p : Page). p.height * stride_of p.width) c.view-2.ensures ∙ ap (λ w. flips.height * stride_of w) c.requires.width in
    let rows : length c.rows-rows.result.now ≡ (paper.height + 312) * 264 =
    c.rows-rows.ensures.size ∙ ap (λ (p : Page). p.height * stride_of p.width) (c.view.ensures ∙ c.in_ok-margins.ensures) in
    omega (arith, size, rows, c.requires.height)

pub returns : goal.returns
returns g c =
    let flips = c.args.flips.now in
    let paper = c.args.paper.now in
    let s = slant_of c.args.shear in
    let rows = c.rows-rows.result.now in
    let before = c.as_mut_slice.result.now in
    let after = c.shear_rows.new.scan in
    let size : length before ≡ flips.height * 225 =
    ap length (c.as_mut_slice.ensures.value ∙ c.in_ok-scan.ensures.items) ∙ c.rows.ensures.size ∙ ap (λ (p : Page). p.height * stride_of p.width) c.view-2.ensures ∙ ap (λ w. flips.height * stride_of w) c.requires.width in
    let is : c.view.result ≡ page_of 2112 (paper.height + 312) (in_margins (dark_at paper)) = c.view.ensures ∙ c.in_ok-margins.ensures in
    let held : packed_page 2112 (paper.height + 312) rows ≡ page_of 2112 (paper.height + 312) (in_margins (dark_at paper)) =
    ap (λ (p : Page). packed_page p.width p.height rows) (sym is) ∙ c.rows-rows.ensures.pixels ∙ is in
    let hold : HoldPaper rows (dark_at paper) (paper.height + 312) = record { pixels = λ x y few less. page-holds rows (dark_at paper) (paper.height + 312) x y held few less } in
    let Are : List Strip → Type 0 = λ strips. AreStrips s strips in
    let are : AreStrips s c.as_slice-strips.result.now = subst Are (sym c.as_slice-strips.ensures.value) c.in_ok-strips.ensures in
    let shown : packed_page flips.width flips.height before ≡ flips =
    ap (packed_page flips.width flips.height) (c.as_mut_slice.ensures.value ∙ c.in_ok-scan.ensures.items)
    ∙ ap (λ (p : Page). packed_page p.width p.height c.rows.result.now) (sym c.view-2.ensures) ∙ c.rows.ensures.pixels ∙ c.view-2.ensures in
    page-at c.from_rows.result _ _ flips.width flips.height _ after c.from_rows.ensures c.width.ensures.value c.height.ensures.value
    (with_items_is c.in_ok-scan.scan after (c.shear_rows.auto.scan ∙ c.as_mut_slice.ensures.len))
    ∙ sheared-page c.args.shear paper flips rows before after c.as_slice-strips.result.now c.requires.shear hold are c.requires.width c.requires.height c.requires.paper_height shown
    (λ v less. c.shear_rows.ensures v (omega (arith, size, less)))
