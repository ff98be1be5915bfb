use Rattle.std.proofs.Common.{◌≡◌, ◌++◌, ℕ, List, length, take, drop, replicate, ap, ◌∙◌}
use Rattle.vx_base.proofs.Results.{OnOk-pushed}
use Rattle.vx_bits.specs.Packed.{packed_row, stride_of}
use Rattle.vx_gray.specs.Packing.{below}
use Rattle.vx_gray.proofs.Packs.{filled_row}
use Rattle.vx_gray.proofs.packing.append_tile.Goals as goal

pub returns : goal.returns
returns c =
    let rest : List ℕ = drop (length c.args.pixels.now) (replicate 64 255) in
    let tile : c.whole_tile-2.result ≡ packed_row (below c.args.half (c.args.pixels.now ++ rest)) =
    c.whole_tile-2.ensures ∙ ap (λ start. packed_row (below c.args.half (start ++ rest))) c.copy_from_slice.ensures.after in
    OnOk-pushed c.extend_from_slice-2.result c.args.into.now.items _ _ _ c.extend_from_slice-2.ensures.items
    (ap (λ row. c.args.into.now.items ++ row)
    (ap (take (stride_of (length c.args.pixels.now))) tile
    ∙ filled_row c.args.pixels.now c.args.half c.ranges.half.fits c.requires))
