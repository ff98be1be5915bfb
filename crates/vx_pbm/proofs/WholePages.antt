-- Images are whole pages of a size that is read.
use Rattle.std.proofs.Common.{◌+◌, ◌-◌, ◌*◌, ◌<◌, ◌&&◌, ◌==◌, ℕ, zero, suc, Bool, true, false, cond, nat_lt, nat_le, List, length, drop, take, Option, Some, None, Result, Ok, Err, sym, arith}
use Rattle.std.specs.Prelude.{All, IfOk, IfSome}
use Rattle.std.proofs.lemmas.Bool.Decides.{nat_tests}
use Rattle.std.proofs.lemmas.List.Elements.{All-nil, All-cons}
use Rattle.vx_base.specs.Results.{◌>>=◌}
use Rattle.vx_base.proofs.Results.{Holds, given, then, after, where_true, where_false}
use Rattle.vx_plane.specs.Plane.{Pixels, Page, page_of}
use Rattle.vx_plane.proofs.Pages.{page_of-dark_at}
use Rattle.vx_bits.specs.Packed.{stride_of, packed_pixels, packed_page}
use Rattle.vx_pbm.specs.declared.header.Header.{Header}
use Rattle.vx_pbm.specs.declared.fault.PbmFault.{PbmFault}
use Rattle.vx_pbm.specs.declared.fault.PbmFault.TheVariants.{BadMagic, SizeTooLarge, Truncated, TrailingPlain}
use Rattle.vx_pbm.specs.Header.{digit_count, first_number, gap_at, number_at, space_at, header_at}
use Rattle.vx_pbm.specs.Raster.{in_size, raw_raster, raw_image, raster_end, pixels_in, listed, plain_raster, plain_image, is_raw, IsSized}
use Rattle.vx_pbm.specs.Images.{Unread, whole, may_be_plain, goes_on, step_over, next_of, Images, onwards, images_within, images_left, images_of, IsWholePage}

-- a header's numbers are above 0
number_above : (text : List ℕ) (at : ℕ) → Holds (λ (found : ℕ × ℕ). 0 < found.0) (number_at text at)
unfolding number_at
number_above text at =
    let count = digit_count (drop at text) in
    let number = first_number (drop at text) in
    where_true (nat_lt 0 count && (nat_le count 9 && nat_lt 0 number)) (number, at + count) at (λ e. grind (arith, nat_tests))

abbrev HasSides : Header → Type 0
HasSides header = (0 < header.width) × (0 < header.height)

header_sides : (text : List ℕ) → Holds HasSides (header_at text)
unfolding header_at
header_sides text =
    after (gap_at text 2) (λ at.
    then (number_above text at) (λ width above.
    after (gap_at text width.1) (λ next.
    then (number_above text next) (λ height below.
    after (space_at text height.1) (λ size. given (above, below))))))

-- a header that is read has sides of 1 to 4096 pixels
size_read : (at : ℕ) (read : Result Header ℕ) → IfOk read HasSides → Holds (λ (header : Header). IsSized header.width header.height) (in_size at read)
size_read at (Err offset) sides = record { is = tt }
size_read at (Ok header) sides =
    where_true (nat_le header.width 4096 && nat_le header.height 4096) header (SizeTooLarge header.width header.height)
    (λ e. record { width_above = sides.0; width_below = grind (arith, nat_tests); height_above = sides.1; height_below = grind (arith, nat_tests) })

-- the page of a set is whole
of_set : (width height : ℕ) (set : Pixels) → IsSized width height → IsWholePage (page_of width height set)
of_set width height set sized = record { whole = sym (page_of-dark_at width height set); sized = sized }

-- what was found with a number of bytes
abbrev IsFoundWhole : Page × ℕ → Type 0
IsFoundWhole found = IsWholePage found.0

raw_raster_whole : (header : Header) (text : List ℕ) → IsSized header.width header.height → Holds IsFoundWhole (raw_raster header text)
unfolding raw_raster
raw_raster_whole header text sized =
    let need = header.height * stride_of header.width in
    let raster = drop header.size text in
    where_false (nat_lt (length raster) need) (packed_page header.width header.height (take need raster), header.size + need) (Truncated (length raster) need)
    (λ e. of_set header.width header.height (packed_pixels header.width (take need raster)) sized)

raw_whole : (at : ℕ) (text : List ℕ) → Holds IsFoundWhole (raw_image at text)
unfolding raw_image
raw_whole at text =
    then (size_read at (header_at text) (header_sides text).is) (λ header sized. raw_raster_whole header text sized)

plain_raster_whole : (header : Header) (text : List ℕ) → IsSized header.width header.height → Holds IsFoundWhole (plain_raster header text)
unfolding plain_raster
plain_raster_whole header text sized =
    after (raster_end (header.height * header.width) 0 header.size (drop header.size text)) (λ end.
    given (of_set header.width header.height (listed header.width (pixels_in (take (end - header.size) (drop header.size text)))) sized))

plain_whole : (text : List ℕ) → Holds IsFoundWhole (plain_image text)
unfolding plain_image
plain_whole text =
    then (size_read 0 (header_at text) (header_sides text).is) (λ header sized. plain_raster_whole header text sized)

-- a step finds a whole page, if any
abbrev IsStepWhole : Option (Page × Unread) → Type 0
IsStepWhole step = IfSome step (λ found. IsWholePage found.0)

chosen : (b : Bool) (first second : Result (Option (Page × Unread)) PbmFault) → Holds IsStepWhole first → Holds IsStepWhole second → Holds IsStepWhole (cond b first second)
chosen true first second a b = a
chosen false first second a b = b

refused : (fault : PbmFault) → Holds IsStepWhole (Err fault)
refused fault = record { is = tt }

ended_here : Holds {F = PbmFault} IsStepWhole (Ok None)
ended_here = record { is = tt }

step_whole : (unread : Unread) (plain : Bool) (read : Result (Page × ℕ) PbmFault) → Holds IsFoundWhole read → Holds IsStepWhole (read >>= step_over unread plain)
step_whole unread plain read holds = then holds (λ found is. given is)

next_whole : (unread : Unread) → Holds IsStepWhole (next_of unread)
unfolding next_of
next_whole unread =
    chosen unread.behind_plain _ _
    (chosen (goes_on unread.text) _ _ (refused (TrailingPlain unread.at)) ended_here)
    (chosen (length unread.text == 0) _ _ ended_here
    (chosen (may_be_plain unread) _ _ (step_whole unread true (plain_image unread.text) (plain_whole unread.text))
    (chosen (is_raw unread.text) _ _ (step_whole unread false (raw_image unread.at unread.text) (raw_whole unread.at unread.text))
    (refused (BadMagic unread.at)))))

-- so all images are
onwards_whole : (images : Unread → Images) (step : Result (Option (Page × Unread)) PbmFault) → IfOk step IsStepWhole
    → ((unread : Unread) → All IsWholePage (images unread).pages) → All IsWholePage (onwards images step).pages
onwards_whole images (Ok (Some found)) is all = All-cons IsWholePage found.0 (images found.1).pages is (all found.1)
onwards_whole images (Ok None) is all = All-nil IsWholePage
onwards_whole images (Err fault) is all = All-nil IsWholePage

within_whole : (steps : ℕ) (unread : Unread) → All IsWholePage (images_within steps unread).pages
within_whole zero unread = All-nil IsWholePage
within_whole (suc steps) unread = onwards_whole (images_within steps) (next_of unread) (next_whole unread).is (within_whole steps)

pub images_whole : (bytes : List ℕ) → All IsWholePage (images_of bytes).pages
unfolding images_of images_left
images_whole bytes = within_whole (length bytes + 1) (whole bytes)
