use Rattle.std.proofs.Common.{◌≡◌, ◌∙◌, ◌*◌, ◌≤◌, length, arith, ap, sym}
use Rattle.std.specs.List.{flat_map}
use Rattle.std.proofs.lemmas.List.{take_all}
use Rattle.vx_bits.specs.Packed.{packed_page, packed_pixels, packed_row, stride_of, raster_of}
use Rattle.vx_plane.proofs.Pages.{length-rows_of}
use Rattle.vx_bits.proofs.Rasters.{raster-more_at}
use Rattle.vx_bits.proofs.raster.is_raster.Goals as goal

pub loop-v-preserved : goal.loop-v-preserved
loop-v-preserved c =
    raster-more_at c.args.width c.args.height c.loop-v.v c.stride-size.result _ c.args.rows.now c.stride-size.ensures (omega arith) c.loop-v-test.true
    c.loop-v.invariant (c.is_packed_row.ensures c.if-not-is_packed_row.false)

pub returns : goal.returns
unfolding raster_of
returns c = λ yes.
    let rows : length (packed_page c.args.width c.args.height c.args.rows.now).rows ≡ c.args.height = length-rows_of c.args.width c.args.height (packed_pixels c.args.width c.args.rows.now) in
    let all : c.loop-v.v ≡ c.args.height = omega arith in
    let bytes : length c.args.rows.now ≤ c.loop-v.v * stride_of c.args.width = omega (arith, c.requires, ap (λ n. n * stride_of c.args.width) all) in
    ap (flat_map packed_row) (sym (take_all c.loop-v.v (packed_page c.args.width c.args.height c.args.rows.now).rows (omega (arith, rows, all))))
    ∙ c.loop-v.invariant
    ∙ take_all (c.loop-v.v * stride_of c.args.width) c.args.rows.now bytes
