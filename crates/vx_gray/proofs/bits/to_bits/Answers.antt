use Rattle.std.proofs.Common.{◌≡◌, ◌*◌, ◌≤◌, List, ℕ, length, take, min, ap, ap₂, sym, ◌∙◌, arith}
use Rattle.std.specs.List.{flat_map}
use Rattle.std.proofs.lemmas.List.{take_all}
use Rattle.vx_plane.proofs.Pages.{page_of-dark_at}
use Rattle.vx_bits.specs.Packed.{packed_row, packed_page, raster_of, stride_of}
use Rattle.vx_gray.specs.Gray.{Gray, bits_of, dark_in}
use Rattle.vx_gray.proofs.Packs.{length-bits}
use Rattle.vx_gray.proofs.bits.to_bits.Goals as goal

-- the rows up to the last are the raster
are_raster : (gray : Gray) (down : ℕ) (rows : List ℕ) → gray.height ≤ 64 * down
    → rows ≡ flat_map packed_row (take (min (64 * down) gray.height) (bits_of gray).rows) → rows ≡ raster_of (bits_of gray)
unfolding raster_of
are_raster gray down rows end is =
    is ∙ ap (flat_map packed_row) (take_all (min (64 * down) gray.height) (bits_of gray).rows (omega (arith, length-bits gray)))

pub from_rows-requires-clause-size : goal.from_rows-requires-clause-size
from_rows-requires-clause-size c =
    ap length (are_raster c.args.gray.now c.loop-down.down c.loop-down.rows.items (omega arith) c.loop-down.invariant.packed)
    ∙ c.rasters_show_their_pages.ensures.size (bits_of c.args.gray.now)
    (sym (page_of-dark_at c.args.gray.now.width c.args.gray.now.height (dark_in c.args.gray.now)))
    ∙ ap₂ (λ h w. h * stride_of w) (sym c.height.ensures.value) (sym c.width-2.ensures.value)

pub returns : goal.returns
returns c =
    c.from_rows.ensures
    ∙ (ap₂ (λ w h. packed_page w h c.loop-down.rows.items) c.width-2.ensures.value c.height.ensures.value
    ∙ (ap (packed_page c.args.gray.now.width c.args.gray.now.height)
    (are_raster c.args.gray.now c.loop-down.down c.loop-down.rows.items (omega arith) c.loop-down.invariant.packed)
    ∙ c.rasters_show_their_pages.ensures.shows (bits_of c.args.gray.now)
    (sym (page_of-dark_at c.args.gray.now.width c.args.gray.now.height (dark_in c.args.gray.now)))))
