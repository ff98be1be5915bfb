-- The pixels behind a header, and whole images.
use Rattle.std.specs.Prelude.{◌<◌, ◌≤◌, ℕ, ◌+◌, ◌-◌, ◌*◌, ◌==◌, ◌&&◌, ◌||◌, Bool, false, List, [], ◌∷◌, length, map, filter, drop, take, pos, slice_index_or, nat_lt, nat_le, nat_eq, codes, if◌then◌else◌, Result, Ok, Err}
use Rattle.std.specs.List.{starts_with}
use Rattle.vx_base.specs.Results.{◌>>=◌}
use Rattle.vx_plane.specs.Plane.{Pixels, Page, page_of}
use Rattle.vx_bits.specs.Packed.{stride_of, packed_page}
use Rattle.vx_pbm.specs.declared.header.Header.{Header}
use Rattle.vx_pbm.specs.declared.fault.PbmFault.{PbmFault}
use Rattle.vx_pbm.specs.declared.fault.PbmFault.TheVariants.{BadHeader, SizeTooLarge, Truncated, BadPixel}
use Rattle.vx_pbm.specs.Header.{header_at, is_space}

-- a header that was read, of an image that begins at an offset, where neither side is above 4096
abbrev pub in_size : ℕ → Result Header ℕ → Result Header PbmFault
in_size at (Err offset) = Err (BadHeader (at + offset))
in_size at (Ok header) =
    if nat_le header.width 4096 && nat_le header.height 4096 then Ok header
    else Err (SizeTooLarge header.width header.height)

-- An image that begins a text gives its page and the number of its bytes, or else its fault. The text
-- stands at an offset of the whole bytes.

-- the raster of a raw image: eight pixels to a byte, a 1 bit dark, the padding bits anything
unfoldable pub raw_raster : Header → List ℕ → Result (Page × ℕ) PbmFault
raw_raster header text =
    let need = header.height * stride_of header.width in
    let raster = drop header.size text in
    if nat_lt (length raster) need then Err (Truncated (length raster) need)
    else Ok (packed_page header.width header.height (take need raster), header.size + need)

-- a raw image, its magic left out of account
unfoldable pub raw_image : ℕ → List ℕ → Result (Page × ℕ) PbmFault
raw_image at text = do
  header ← in_size at (header_at text)
  raw_raster header text

-- the pixels of a plain raster: `0` is light and `1` is dark
abbrev pub is_pixel : ℕ → Bool
is_pixel byte = (byte == 48) || (byte == 49)

-- where a plain raster of `need` pixels ends, of which `have` stand before the text, or its fault
abbrev pub raster_end : ℕ → ℕ → ℕ → List ℕ → Result ℕ PbmFault
raster_end need have at [] = if have == need then Ok at else Err (Truncated have need)
raster_end need have at (byte ∷ rest) =
    if have == need then Ok at
    else if is_pixel byte then raster_end need (have + 1) (at + 1) rest
    else if is_space byte then raster_end need have (at + 1) rest
    else Err (BadPixel at)

-- the pixels of a plain raster, true for dark; the whitespace between them is ignored
abbrev pub pixels_in : List ℕ → List Bool
pixels_in raster = map (λ byte. byte == 49) (filter is_pixel raster)

-- the places that are dark where a page's pixels are listed row after row
abbrev pub listed : ℕ → List Bool → Pixels
listed width pixels (pos x) (pos y) = slice_index_or pixels (y * width + x) false
listed width pixels u v = false

-- the raster of a plain image: bytes `0` and `1`
unfoldable pub plain_raster : Header → List ℕ → Result (Page × ℕ) PbmFault
plain_raster header text = do
  end ← raster_end (header.height * header.width) 0 header.size (drop header.size text)
  Ok (
    page_of header.width header.height
        (listed header.width (pixels_in (take (end - header.size) (drop header.size text)))),
    end,
  )

-- a plain image, which stands at the first byte, its magic left out of account
unfoldable pub plain_image : List ℕ → Result (Page × ℕ) PbmFault
plain_image text = do
  header ← in_size 0 (header_at text)
  plain_raster header text

-- the magic of a raw image, and that of a plain one
abbrev pub is_raw : List ℕ → Bool
is_raw text = starts_with nat_eq text (codes "P4")

abbrev pub is_plain : List ℕ → Bool
is_plain text = starts_with nat_eq text (codes "P1")

-- the sides of a page that was read
pub record IsSized (width height : ℕ) : Type 0 where
  pub width_above : 0 < width
  pub width_below : width ≤ 4096
  pub height_above : 0 < height
  pub height_below : height ≤ 4096
