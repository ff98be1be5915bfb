use Rattle.std.proofs.Common.{◌≡◌, ◌*◌, ◌++◌, length, refl, ap, ◌∙◌, arith, min, map}
use Rattle.std.specs.List.{range_with_len}
use Rattle.vx_bits.specs.Packed.{packed_byte, packed_row, stride_of}
use Rattle.vx_gray.specs.Packing.{row_below}
use Rattle.vx_gray.proofs.Packs.{tile_more, length-row_below}
use Rattle.vx_gray.proofs.packing.append_row.Goals as goal

pub loop-across-preserved : goal.loop-across-preserved
loop-across-preserved c =
    tile_more c.args.into.now.items c.loop-across.into.items c.append_tile.new.into.items c.args.halves.now c.args.pixels.now c.loop-across.across
    c.min-end.result _
    refl c.min-end.ensures (omega arith) c.loop-across.invariant c.in_ok-append_tile.ensures

pub returns : goal.returns
unfolding packed_row
returns c =
    let all : min (8 * c.loop-across.across) (stride_of (length c.args.pixels.now)) ≡ stride_of (length (row_below c.args.halves.now c.args.pixels.now)) =
    omega (arith, length-row_below c.args.halves.now c.args.pixels.now) in
    c.loop-across.invariant ∙ ap (λ n. c.args.into.now.items ++ map (packed_byte (row_below c.args.halves.now c.args.pixels.now)) (range_with_len 0 n)) all
