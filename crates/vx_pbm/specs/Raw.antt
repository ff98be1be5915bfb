-- The text of a raw bitmap, after netpbm's PBM format `P4`.
use Rattle.std.specs.Prelude.{ℕ, List, [], ◌∷◌, ◌++◌, codes}
use Rattle.std.specs.Fmt.{decimal}
use Rattle.vx_plane.specs.Plane.{Page}
use Rattle.vx_bits.specs.Packed.{raster_of}

-- the header: `P4`, a line end, the width, a blank, the height, a line end
abbrev pub header_of : ℕ → ℕ → List ℕ
header_of width height = codes "P4" ++ 10 ∷ decimal width ++ 32 ∷ decimal height ++ 10 ∷ []

-- the raw bitmap of a page: its header and its raster
unfoldable pub p4_of : Page → List ℕ
p4_of page = header_of page.width page.height ++ raster_of page
