use Rattle.std.proofs.Common.{◌≡◌, ◌++◌, ◌<◌, length, get_or, [], arith, ap, ◌∙◌}
use Rattle.std.specs.List.{flat_map}
use Rattle.std.proofs.lemmas.List.{take_all}
use Rattle.vx_bits.specs.Packed.{packed_row, unpacked, raster_of}
use Rattle.vx_bits.proofs.Rasters.{length-rows, row_more}
use Rattle.vx_bits.proofs.raster.append_rows.Goals as goal

pub loop-v-preserved : goal.loop-v-preserved
loop-v-preserved c =
    let rows : length c.args.page.now.rows ≡ c.args.page.now.height = length-rows c.args.page.now c.height-v-end.ensures.whole in
    let inside : c.loop-v.v < length c.args.page.now.rows = omega (arith, rows) in
    let row : packed_row (unpacked c.width.result c.row_bytes.result.now) ≡ packed_row (get_or c.args.page.now.rows c.loop-v.v []) =
    ap packed_row (ap (λ w. unpacked w c.row_bytes.result.now) c.width.ensures.value ∙ c.row_bytes.ensures.pixels) in
    row_more c.args.into.now c.loop-v.into _ c.args.page.now.rows c.loop-v.v inside c.loop-v.invariant
    (c.in_ok-append_row.ensures.ok ∙ ap (λ s. c.loop-v.into ++ s) row)

pub returns-clause-ok : goal.returns-clause-ok
unfolding raster_of
returns-clause-ok c =
    let rows : length c.args.page.now.rows ≡ c.args.page.now.height = length-rows c.args.page.now c.height-v-end.ensures.whole in
    c.loop-v.invariant ∙ ap (λ r. c.args.into.now ++ flat_map packed_row r) (take_all c.loop-v.v c.args.page.now.rows (omega (arith, rows)))
