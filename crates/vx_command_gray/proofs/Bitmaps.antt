-- What `gray` wrote, as bitmaps.
use Rattle.std.proofs.Common.{◌≡◌, ◌+◌, ℕ, Bool, true, false, cond, List, [], ◌∷◌, ◌++◌, map, length, nat_lt, Option, Some, None, Result, Ok, Err, refl, sym, ap, ap₂, ◌∙◌}
use Rattle.std.specs.Prelude.{All}
use Rattle.std.specs.List.{flat_map}
use Rattle.std.proofs.lemmas.List.Concat.{flat_map-append}
use Rattle.std.proofs.lemmas.List.Elements.{All-nil, All-append, All-head, All-tail}
use Rattle.vx_plane.proofs.Pages.{page_of-dark_at}
use Rattle.vx_pbm.specs.Raster.{is_plain}
use Rattle.vx_pbm.specs.Raw.{p4_of}
use Rattle.vx_pbm.specs.Images.{Images, images_of as bitmaps_of, images_left, next_of, with_page, ended, followed_by, JoinsRawImages, ReadsBack, IsWholePage}
use Rattle.vx_gray.specs.declared.fault.PgmFault.{PgmFault}
use Rattle.vx_gray.specs.Gray.{Gray, bits_of, dark_in}
use Rattle.vx_gray.specs.Images.{images_of, IsSizedGray, ImagesAreSized}
use Rattle.vx_io.specs.Outside.{Files}
use Rattle.vx_command.specs.declared.halt.Halt.{Halt}
use Rattle.vx_command.specs.declared.halt.Halt.TheVariants as halt
use Rattle.vx_command.specs.Acts.{text_of, input_of, input_limit}
use Rattle.vx_command_gray.specs.declared.status.GrayStatus.TheVariants as gray
use Rattle.vx_command_gray.specs.Bitmaps.{unless_faulty_before, grays_and, grays_in, bitmaps_text}
use Rattle.vx_command_gray.specs.Outcome.{GrayOutcome, ended as ended_with, page_acts, unless_faulty, scan_outcome, once_taken, scans_outcome}

page-texts : (pages : List Gray) → flat_map text_of (page_acts pages) ≡ bitmaps_text pages
page-texts [] = refl
page-texts (page ∷ pages) = ap (λ (rest : List ℕ). p4_of (bits_of page) ++ rest) (page-texts pages)

-- what comes next, unless a fault comes before it
next-texts : (word : ℕ) (fault : Option PgmFault) (next : GrayOutcome) (more : List Gray) → flat_map text_of next.acts ≡ bitmaps_text more
    → flat_map text_of (unless_faulty word fault next).acts ≡ bitmaps_text (unless_faulty_before fault more)
next-texts word None next more is = is
next-texts word (Some fault) next more is = refl

taken-texts : (long : Bool) (word : ℕ) (bytes : List ℕ) (next : GrayOutcome) (more : List Gray) → flat_map text_of next.acts ≡ bitmaps_text more
    → flat_map text_of (cond long (ended_with (gray.TooLong word (length bytes))) (scan_outcome word (images_of bytes) next)).acts ≡ bitmaps_text
    (grays_and (cond long (Err (halt.TooLong word (length bytes))) (Ok bytes)) more)
taken-texts true word bytes next more is = refl
taken-texts false word bytes next more is =
    flat_map-append text_of (page_acts (images_of bytes).pages) (unless_faulty word (images_of bytes).fault next).acts
    ∙ (ap₂ (λ (a b : List ℕ). a ++ b) (page-texts (images_of bytes).pages) (next-texts word (images_of bytes).fault next more is)
    ∙ sym (flat_map-append (λ page. p4_of (bits_of page)) (images_of bytes).pages (unless_faulty_before (images_of bytes).fault more)))

file-texts : (word : ℕ) (file : Option (List ℕ)) (next : GrayOutcome) (more : List Gray) → flat_map text_of next.acts ≡ bitmaps_text more
    → flat_map text_of (once_taken word file (λ bytes. scan_outcome word (images_of bytes) next)).acts ≡ bitmaps_text
    (grays_and (input_of word input_limit file) more)
file-texts word None next more is = refl
file-texts word (Some bytes) next more is = taken-texts (nat_lt input_limit (length bytes)) word bytes next more is

-- the texts of the acts of a `gray` are the bitmaps of its images
pub scans-texts : (files : Files) (word : ℕ) (names : List (List ℕ))
    → flat_map text_of (scans_outcome files word names).acts ≡ bitmaps_text (grays_in files word names)
scans-texts files word [] = refl
scans-texts files word (name ∷ names) =
    file-texts word (files name) (scans_outcome files (word + 1) names) (grays_in files (word + 1) names) (scans-texts files (word + 1) names)

rest-sized : (fault : Option PgmFault) (more : List Gray) → All IsSizedGray more → All IsSizedGray (unless_faulty_before fault more)
rest-sized None more sized = sized
rest-sized (Some fault) more sized = All-nil IsSizedGray

input-sized : ImagesAreSized → (read : Result (List ℕ) Halt) (more : List Gray) → All IsSizedGray more → All IsSizedGray (grays_and read more)
input-sized each (Err cause) more sized = All-nil IsSizedGray
input-sized each (Ok bytes) more sized = All-append IsSizedGray (images_of bytes).pages (unless_faulty_before (images_of bytes).fault more)
    (each bytes) (rest-sized (images_of bytes).fault more sized)

pub grays-sized : ImagesAreSized → (files : Files) (word : ℕ) (names : List (List ℕ)) → All IsSizedGray (grays_in files word names)
grays-sized each files word [] = All-nil IsSizedGray
grays-sized each files word (name ∷ names) = input-sized each (input_of word input_limit (files name)) (grays_in files (word + 1) names)
    (grays-sized each files (word + 1) names)

none_read : bitmaps_of [] ≡ ended None
unfolding bitmaps_of images_left next_of
none_read = refl

raw_first : (page : Gray) (rest : List ℕ) → is_plain (p4_of (bits_of page) ++ rest) ≡ false
unfolding p4_of
raw_first page rest = refl

raw_text : (pages : List Gray) → is_plain (bitmaps_text pages) ≡ false
raw_text [] = refl
raw_text (page ∷ pages) = raw_first page (bitmaps_text pages)

raw_page : (page : Gray) → is_plain (p4_of (bits_of page)) ≡ false
unfolding p4_of
raw_page page = refl

-- the bitmaps of pages are read as their bits
pub reads-bits : JoinsRawImages → ReadsBack → (pages : List Gray) → All IsSizedGray pages
    → bitmaps_of (bitmaps_text pages) ≡ record { pages = map bits_of pages; fault = None }
reads-bits joins back [] sized = none_read
reads-bits joins back (page ∷ pages) sized =
    let whole_page : IsWholePage (bits_of page) = record {
      whole = sym
          (page_of-dark_at page.width page.height (dark_in page));
      sized = All-head IsSizedGray page pages sized;
    } in
    let one : bitmaps_of (p4_of (bits_of page)) ≡ with_page (bits_of page) (ended None) = back (bits_of page) whole_page in
    joins (p4_of (bits_of page)) (bitmaps_text pages)
    (record { no_plain = raw_page page; whole = ap (λ (images : Images). images.fault) one })
    (raw_text pages)
    ∙ ap₂ (λ (first second : Images). followed_by first (length (p4_of (bits_of page))) second) one
    (reads-bits joins back pages (All-tail IsSizedGray page pages sized))
