-- The images of bytes: raw images one after another with nothing between, or one plain image.
use Rattle.std.specs.Prelude.{◌≡◌, All, ℕ, zero, suc, ◌+◌, ◌==◌, ◌&&◌, Bool, true, false, not, List, [], ◌∷◌, ◌++◌, length, drop, if◌then◌else◌, MatchBool, Option, Some, None, option_map, Result, Ok, Err}
use Rattle.vx_base.specs.Results.{◌>>=◌}
use Rattle.vx_plane.specs.Plane.{Page, page_of, dark_at}
use Rattle.vx_pbm.specs.declared.fault.PbmFault.{PbmFault}
use Rattle.vx_pbm.specs.declared.fault.PbmFault.TheVariants.{BadMagic, BadHeader, SizeTooLarge, Truncated, BadPixel, TrailingPlain, OutOfMemory}
use Rattle.vx_pbm.specs.Faults.{is_no_memory}
use Rattle.vx_pbm.specs.Header.{is_space}
use Rattle.vx_pbm.specs.Raster.{is_raw, is_plain, raw_image, plain_image, IsSized}
use Rattle.vx_pbm.specs.Raw.{p4_of}

-- what of the bytes is unread: the offset of its first byte, its text, whether a plain image precedes it
pub record Unread : Type 0 where
  pub at : ℕ
  pub text : List ℕ
  pub behind_plain : Bool

-- bytes of which nothing was read
abbrev pub whole : List ℕ → Unread
whole bytes = record { at = 0; text = bytes; behind_plain = false }

-- bytes that were read up to an offset
abbrev pub unread_from : List ℕ → ℕ → Bool → Unread
unread_from bytes at behind_plain = record { at = at; text = drop at bytes; behind_plain = behind_plain }

-- a plain image may begin at the first byte only
abbrev pub may_be_plain : Unread → Bool
may_be_plain unread = (unread.at == 0) && is_plain unread.text

-- whether a text goes on with something else than whitespace, as none may behind a plain image's last pixel
abbrev pub goes_on : List ℕ → Bool
goes_on [] = false
goes_on (byte ∷ rest) = not (is_space byte)

-- an image that was found, and what is unread behind it
abbrev pub step_over : Unread → Bool → Page × ℕ → Result (Option (Page × Unread)) PbmFault
step_over unread plain found =
    Ok (Some (found.0, record { at = unread.at + found.1; text = drop found.1 unread.text; behind_plain = plain }))

-- the first image of what is unread, with what is unread behind it; none at the end; or the fault
unfoldable pub next_of : Unread → Result (Option (Page × Unread)) PbmFault
next_of unread =
    if unread.behind_plain then (if goes_on unread.text then Err (TrailingPlain unread.at) else Ok None)
    else if length unread.text == 0 then Ok None
    else if may_be_plain unread then plain_image unread.text >>= step_over unread true
    else if is_raw unread.text then raw_image unread.at unread.text >>= step_over unread false
    else Err (BadMagic unread.at)

-- the pages of bytes in order, and the fault of the first offset that leaves the grammar, if any
pub record Images : Type 0 where
  pub pages : List Page
  pub fault : Option PbmFault

-- the images with one page more before them
abbrev pub with_page : Page → Images → Images
with_page page images = record { pages = page ∷ images.pages; fault = images.fault }

-- no pages, and maybe a fault
abbrev pub ended : Option PbmFault → Images
ended fault = record { pages = []; fault = fault }

-- the images that begin with what was found, where the ones behind it are known
abbrev pub onwards : (Unread → Images) → Result (Option (Page × Unread)) PbmFault → Images
onwards images (Ok (Some found)) = with_page found.0 (images found.1)
onwards images (Ok None) = ended None
onwards images (Err fault) = ended (Some fault)

-- the images of what is unread, in at most so many steps
abbrev pub images_within : ℕ → Unread → Images
images_within zero unread = ended None
images_within (suc steps) unread = onwards (images_within steps) (next_of unread)

-- the images of what is unread; each takes a byte at least
unfoldable pub images_left : Unread → Images
images_left unread = images_within (length unread.text + 1) unread

-- the images of bytes
unfoldable pub images_of : List ℕ → Images
images_of bytes = images_left (whole bytes)

-- a refusal: the fault of the first image, or want of memory, which only a plain image has
abbrev pub Refuses : Unread → PbmFault → Type 0
Refuses unread fault =
    MatchBool (is_no_memory fault) (may_be_plain unread ≡ true) (next_of unread ≡ Err fault)

-- What a reader answered, and what is unread afterwards. The first image is given and stepped over. At
-- the end, at a fault, and at want of memory, which only a plain image has, nothing moves on.
abbrev pub Steps : Unread → Result (Option Page) PbmFault → Unread → Type 0
Steps old (Ok (Some page)) new = next_of old ≡ Ok (Some (page, new))
Steps old (Ok None) new = (next_of old ≡ Ok None) × (new ≡ old)
Steps old (Err fault) new = Refuses old fault × (new ≡ old)

-- The same of all images that are left: the page was the first of them, or there was none but the fault.
abbrev pub Walks : Unread → Result (Option Page) PbmFault → Unread → Type 0
Walks old (Ok (Some page)) new = images_left old ≡ with_page page (images_left new)
Walks old (Ok None) new = images_left old ≡ ended None
Walks old (Err fault) new =
    MatchBool (is_no_memory fault) (images_left new ≡ images_left old) (images_left old ≡ ended (Some fault))

-- a fault of bytes that so many others precede
abbrev pub moved_fault : ℕ → PbmFault → PbmFault
moved_fault size (BadMagic at) = BadMagic (size + at)
moved_fault size (BadHeader at) = BadHeader (size + at)
moved_fault size (SizeTooLarge width height) = SizeTooLarge width height
moved_fault size (Truncated have need) = Truncated have need
moved_fault size (BadPixel at) = BadPixel (size + at)
moved_fault size (TrailingPlain at) = TrailingPlain (size + at)
moved_fault size OutOfMemory = OutOfMemory

-- the images of bytes and then those of others behind so many bytes
abbrev pub followed_by : Images → ℕ → Images → Images
followed_by first size second =
    record { pages = first.pages ++ second.pages; fault = option_map (moved_fault size) second.fault }

-- raw images alone that leave the grammar nowhere
pub record AreRaw (bytes : List ℕ) : Type 0 where
  pub no_plain : is_plain bytes ≡ false
  pub whole : (images_of bytes).fault ≡ None

-- raw images, and bytes behind them that don't begin as a plain image does
abbrev pub JoinsRawImages : Type 0
JoinsRawImages = (front rest : List ℕ) → AreRaw front → is_plain rest ≡ false →
    images_of (front ++ rest) ≡ followed_by (images_of front) (length front) (images_of rest)

-- a page that a reader gives: as high and as wide as it says, neither above 4096
pub record IsWholePage (page : Page) : Type 0 where
  pub whole : page ≡ page_of page.width page.height (dark_at page)
  pub sized : IsSized page.width page.height

-- the images of bytes are such pages
abbrev pub ImagesAreWhole : Type 0
ImagesAreWhole = (bytes : List ℕ) → All IsWholePage (images_of bytes).pages

-- what is written of a page is read as that page alone
abbrev pub ReadsBack : Type 0
ReadsBack = (page : Page) → IsWholePage page → images_of (p4_of page) ≡ with_page page (ended None)

-- the pages that a reader gave one after another, from what was unread to what is unread then
abbrev pub Gave : Unread → List Page → Unread → Type 0
Gave old [] new = new ≡ old
Gave old (page ∷ pages) new = (between : Unread) × Steps old (Ok (Some page)) between × Gave between pages new

-- a reader that gave these pages of bytes comes to their end or to a fault: these are their images
pub record EndsWalk (bytes : List ℕ) (pages : List Page) (unread : Unread) : Type 0 where
  pub at_end : Steps unread (Ok None) unread → images_of bytes ≡ record { pages = pages; fault = None }
  pub at_fault : (fault : PbmFault) → is_no_memory fault ≡ false → Steps unread (Err fault) unread →
      images_of bytes ≡ record { pages = pages; fault = Some fault }

-- a whole walk gives the images of the bytes
abbrev pub WalksAllImages : Type 0
WalksAllImages = (bytes : List ℕ) (pages : List Page) (unread : Unread) →
    Gave (whole bytes) pages unread → EndsWalk bytes pages unread
