-- The grayscale images of bytes: raw images one after another with nothing between.
use Rattle.std.specs.Prelude.{All, ◌≡◌, ℕ, zero, suc, ◌+◌, ◌*◌, ◌==◌, ◌&&◌, Bool, List, [], ◌∷◌, length, drop, take, nat_lt, nat_le, nat_eq, codes, if◌then◌else◌, Option, Some, None, Result, Ok, Err}
use Rattle.std.specs.List.{starts_with}
use Rattle.vx_base.specs.Results.{◌>>=◌}
use Rattle.vx_pbm.specs.Raster.{IsSized}
use Rattle.vx_gray.specs.declared.fault.PgmFault.{PgmFault}
use Rattle.vx_gray.specs.declared.fault.PgmFault.TheVariants.{BadMagic, BadHeader, SizeTooLarge, Truncated, BadMaxval}
use Rattle.vx_gray.specs.declared.header.Header.{Header}
use Rattle.vx_gray.specs.Gray.{Gray}
use Rattle.vx_gray.specs.Header.{header_at}

-- a header that was read, of an image that begins at an offset, where its greatest value is a byte and neither
-- side is above 4096
abbrev pub in_bounds : ℕ → Result Header ℕ → Result Header PgmFault
in_bounds at (Err offset) = Err (BadHeader (at + offset))
in_bounds at (Ok header) =
    if nat_lt 255 header.maxval then Err (BadMaxval header.maxval)
    else if nat_le header.width 4096 && nat_le header.height 4096 then Ok header
    else Err (SizeTooLarge header.width header.height)

-- An image that begins a text gives its page and the number of its bytes, or else its fault. The text
-- stands at an offset of the whole bytes.

-- the raster: a byte for each pixel, which may be above the greatest value that the header gives
unfoldable pub raster : Header → List ℕ → Result (Gray × ℕ) PgmFault
raster header text =
    let need = header.height * header.width in
    let bytes = drop header.size text in
    if nat_lt (length bytes) need then Err (Truncated (length bytes) need)
    else
    Ok (record { width = header.width; height = header.height; values = take need bytes }, header.size + need)

-- an image, its magic left out of account
unfoldable pub image_at : ℕ → List ℕ → Result (Gray × ℕ) PgmFault
image_at at text = do
  header ← in_bounds at (header_at text)
  raster header text

-- the magic of a raw grayscale image
abbrev pub is_raw : List ℕ → Bool
is_raw text = starts_with nat_eq text (codes "P5")

-- what of the bytes is unread: the offset of its first byte, and its text
pub record Unread : Type 0 where
  pub at : ℕ
  pub text : List ℕ

-- bytes of which nothing was read
abbrev pub whole : List ℕ → Unread
whole bytes = record { at = 0; text = bytes }

-- bytes that were read up to an offset
abbrev pub unread_from : List ℕ → ℕ → Unread
unread_from bytes at = record { at = at; text = drop at bytes }

-- an image that was found, and what is unread behind it
abbrev pub step_over : Unread → Gray × ℕ → Result (Option (Gray × Unread)) PgmFault
step_over unread found = Ok (Some (found.0, record { at = unread.at + found.1; text = drop found.1 unread.text }))

-- the first image of what is unread, with what is unread behind it; none at the end; or the fault
unfoldable pub next_of : Unread → Result (Option (Gray × Unread)) PgmFault
next_of unread =
    if length unread.text == 0 then Ok None
    else if is_raw unread.text then image_at unread.at unread.text >>= step_over unread
    else Err (BadMagic unread.at)

-- What a reader answered, and what is unread afterwards. The first image is given and stepped over. At the end
-- and at a fault nothing moves on.
abbrev pub Steps : Unread → Result (Option Gray) PgmFault → Unread → Type 0
Steps old (Ok (Some gray)) new = next_of old ≡ Ok (Some (gray, new))
Steps old (Ok None) new = (next_of old ≡ Ok None) × (new ≡ old)
Steps old (Err fault) new = (next_of old ≡ Err fault) × (new ≡ old)

-- the images of bytes in order, and the fault of the first offset that leaves the grammar, if any
pub record Images : Type 0 where
  pub pages : List Gray
  pub fault : Option PgmFault

-- the images with one page more before them
abbrev pub with_page : Gray → Images → Images
with_page page images = record { pages = page ∷ images.pages; fault = images.fault }

-- no pages, and maybe a fault
abbrev pub ended : Option PgmFault → Images
ended fault = record { pages = []; fault = fault }

-- the images that begin with what was found, where the ones behind it are known
abbrev pub onwards : (Unread → Images) → Result (Option (Gray × Unread)) PgmFault → Images
onwards images (Ok (Some found)) = with_page found.0 (images found.1)
onwards images (Ok None) = ended None
onwards images (Err fault) = ended (Some fault)

-- the images of what is unread, in at most so many steps
abbrev pub images_within : ℕ → Unread → Images
images_within zero unread = ended None
images_within (suc steps) unread = onwards (images_within steps) (next_of unread)

-- the images of what is unread; each takes a byte at least
unfoldable pub images_left : Unread → Images
images_left unread = images_within (length unread.text + 1) unread

-- the images of bytes
unfoldable pub images_of : List ℕ → Images
images_of bytes = images_left (whole bytes)

-- The same of all images that are left: the page was the first of them, or there was none but the fault.
abbrev pub Walks : Unread → Result (Option Gray) PgmFault → Unread → Type 0
Walks old (Ok (Some page)) new = images_left old ≡ with_page page (images_left new)
Walks old (Ok None) new = images_left old ≡ ended None
Walks old (Err fault) new = images_left old ≡ ended (Some fault)

-- a page that a reader gives: of 1 to 4096 pixels each way
abbrev pub IsSizedGray : Gray → Type 0
IsSizedGray gray = IsSized gray.width gray.height

-- the images of bytes are such pages
abbrev pub ImagesAreSized : Type 0
ImagesAreSized = (bytes : List ℕ) → All IsSizedGray (images_of bytes).pages
