-- Pixels packed eight to a byte, the most significant bit first, each row padded to a byte: the
-- raster of a raw PBM image.
use Rattle.std.specs.Prelude.{◌≡◌, ◌<◌, ◌≤◌, ℕ, ◌+◌, ◌-◌, ◌*◌, ◌/◌, ◌%◌, ◌==◌, List, map, length, Bool, false, pos, slice_index, slice_index_or}
use Rattle.std.specs.Int.{bit_at}
use Rattle.std.specs.List.{flat_map, range_with_len}
use Rattle.vx_plane.specs.Plane.{Pixels, Page, page_of, dark_at}
use Rattle.vx_plane.specs.Count.{one_if}

-- the number of bytes of a packed row of pixels
abbrev pub stride_of : ℕ → ℕ
stride_of width = (width + 7) / 8

-- the pixel of a packed row that begins at a byte
abbrev pub packed_pixel : List ℕ → ℕ → ℕ → Bool
packed_pixel bytes start x = bit_at (slice_index bytes (start + x / 8)) (7 - x % 8) == 1

-- every pixel is as before but the one in this column of the row that begins at a byte
abbrev pub IsSameElsewhere : List ℕ → List ℕ → ℕ → ℕ → Type 0
IsSameElsewhere old new start x = (other y : ℕ) →
    (other + y / 8 ≡ start + x / 8 → y % 8 ≡ x % 8 → ⊥) → packed_pixel new other y ≡ packed_pixel old other y

-- the dark places of packed rows
abbrev pub packed_pixels : ℕ → List ℕ → Pixels
packed_pixels width bytes (pos x) (pos y) = packed_pixel bytes (y * stride_of width) x
packed_pixels width bytes u v = false

-- the number of bits that pad the last byte of a packed row
abbrev pub padding_of : ℕ → ℕ
padding_of width = (8 - width % 8) % 8

-- the page of packed rows; the bits that pad a row aren't seen
abbrev pub packed_page : ℕ → ℕ → List ℕ → Page
packed_page width height bytes = page_of width height (packed_pixels width bytes)

-- packed rows that an owned page has: 1 to 4096 pixels each way, and each row's bytes
pub record IsPackedPage (width height : ℕ) (bytes : List ℕ) : Type 0 where
  pub width_above : 0 < width
  pub width_below : width ≤ 4096
  pub height_above : 0 < height
  pub height_below : height ≤ 4096
  pub size : length bytes ≡ height * stride_of width

-- the first pixels of one packed row
unfoldable pub unpacked : ℕ → List ℕ → List Bool
unpacked width bytes = map (λ x. packed_pixel bytes 0 x) (range_with_len 0 width)

-- the byte k of a packed row: eight pixels, the first of them the highest bit, light past the row's end
abbrev pub packed_byte : List Bool → ℕ → ℕ
packed_byte row k =
    128 * one_if (slice_index_or row (8 * k) false)
    + 64 * one_if (slice_index_or row (8 * k + 1) false)
    + 32 * one_if (slice_index_or row (8 * k + 2) false)
    + 16 * one_if (slice_index_or row (8 * k + 3) false)
    + 8 * one_if (slice_index_or row (8 * k + 4) false)
    + 4 * one_if (slice_index_or row (8 * k + 5) false)
    + 2 * one_if (slice_index_or row (8 * k + 6) false)
    + one_if (slice_index_or row (8 * k + 7) false)

-- a row of pixels, packed, with light pixels as padding
unfoldable pub packed_row : List Bool → List ℕ
packed_row row = map (packed_byte row) (range_with_len 0 (stride_of (length row)))

-- the raster of a page: its packed rows, one after another from the top
unfoldable pub raster_of : Page → List ℕ
raster_of page = flat_map packed_row page.rows

-- a page is what its dark places make
abbrev pub IsWhole : Page → Type 0
IsWhole page = page ≡ page_of page.width page.height (dark_at page)

-- a raster has its rows' bytes, and shows its page
pub record RasterLaws : Type 0 where
  pub size : (page : Page) → IsWhole page → length (raster_of page) ≡ page.height * stride_of page.width
  pub shows : (page : Page) → IsWhole page → packed_page page.width page.height (raster_of page) ≡ page
