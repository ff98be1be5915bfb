-- The picture of a part of a page.
use Rattle.std.specs.Prelude.{ℕ, ◌+◌, ◌*◌, Bool, false, nat_lt, if◌then◌else◌, List, [], ◌∷◌, map, pos, ◌+ℤ◌, codes}
use Rattle.std.specs.List.{range_with_len}
use Rattle.serde_json.specs.Data.{Data}
use Rattle.base64.specs.GeneralPurpose.{encode_of}
use Rattle.base64.specs.Engines.{standard}
use Rattle.vx_plane.specs.Count.{one_if}
use Rattle.vx_plane.specs.Plane.{Page, Pixels, page_of, dark_at}
use Rattle.vx_bits.specs.Packed.{raster_of}
use Rattle.vx_markup.specs.Json.{text, whole, described}
use Rattle.vx_desk.specs.declared.region.Region.{Region}
use Rattle.vx_desk.specs.Regions.{width_of, height_of}

-- the dark places of a page, seen from one of its pixels
abbrev pub seen_from : Page → ℕ → ℕ → Pixels
seen_from page left top u v = dark_at page (u +ℤ pos left) (v +ℤ pos top)

-- the part of a page in a region, as a page of its own
unfoldable pub part_of : Page → Region → Page
part_of page region = page_of (width_of region) (height_of region) (seen_from page region.left region.top)

-- its picture: its sides in pixels, and its raster in base64
abbrev pub picture : Page → Region → Data
picture page region = described
    ((codes "bits", text (encode_of standard (raster_of (part_of page region))))
    ∷ (codes "height", whole (height_of region)) ∷ (codes "width", whole (width_of region)) ∷ [])

-- a row of it, and a pixel of a row: one past its end is light
abbrev pub row_at : Page → Region → ℕ → List Bool
row_at page region y =
    map (λ x. seen_from page region.left region.top (pos x) (pos y)) (range_with_len 0 (width_of region))

abbrev pub pixel_at : Page → Region → ℕ → ℕ → Bool
pixel_at page region y x =
    if nat_lt x (width_of region) then seen_from page region.left region.top (pos x) (pos y) else false

-- four pixels of a row as the half of a byte
abbrev pub half_byte_at : Page → Region → ℕ → ℕ → ℕ
half_byte_at page region y x =
    8 * one_if (pixel_at page region y x) + 4 * one_if (pixel_at page region y (x + 1))
    + 2 * one_if (pixel_at page region y (x + 2)) + one_if (pixel_at page region y (x + 3))
