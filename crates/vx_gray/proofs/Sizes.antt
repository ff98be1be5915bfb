-- The images of bytes have sides within bounds.
use Rattle.std.proofs.Common.{◌≡◌, ◌+◌, ◌<◌, ◌==◌, ℕ, zero, suc, Bool, true, false, cond, nat_le, List, length, drop, Option, Some, None, Result, Ok, Err, arith, refl, ap, subst}
use Rattle.std.specs.Prelude.{All}
use Rattle.std.proofs.lemmas.Bool.{and_parts, ltb-true, leb-true}
use Rattle.std.proofs.lemmas.List.Elements.{All-nil, All-cons}
use Rattle.vx_base.specs.Results.{◌>>=◌}
use Rattle.vx_base.proofs.Results.{bind_ok}
use Rattle.vx_pbm.specs.Header.{gap_at, number_at, space_at, digit_count, first_number}
use Rattle.vx_pbm.specs.Raster.{IsSized}
use Rattle.vx_gray.specs.declared.fault.PgmFault.{PgmFault}
use Rattle.vx_gray.specs.declared.fault.PgmFault.TheVariants.{BadMagic}
use Rattle.vx_gray.specs.declared.header.Header.{Header}
use Rattle.vx_gray.specs.Gray.{Gray}
use Rattle.vx_gray.specs.Header.{header_at}
use Rattle.vx_gray.specs.Images.{in_bounds, raster, image_at, is_raw, Unread, whole, step_over, next_of, Images, onwards, images_within, images_left, images_of, IsSizedGray}

number_test : (t : Bool) (number at from : ℕ) (found : ℕ × ℕ) → (t ≡ true → 0 < number) → cond t (Ok (number, at)) (Err from) ≡ Ok found → 0 < found.0
number_test true number at from found some e = let is : number ≡ found.0 = cc in let above : 0 < number = some refl in omega arith
number_test false number at from found some e = absurd cc

number_above : (text : List ℕ) (at : ℕ) (found : ℕ × ℕ) → number_at text at ≡ Ok found → 0 < found.0
unfolding number_at
number_above text at found e =
    number_test _ (first_number (drop at text)) (at + digit_count (drop at text)) at found
    (λ t. ltb-true 0 (first_number (drop at text)) (and_parts _ _ (and_parts _ _ t).1).1) e

sides : Result Header ℕ → ℕ × ℕ
sides (Ok header) = (header.width, header.height)
sides (Err offset) = (0, 0)

header_sides : (text : List ℕ) (header : Header) → header_at text ≡ Ok header → (0 < header.width) × (0 < header.height)
unfolding header_at sides
header_sides text header e =
    let a = bind_ok (gap_at text 2) _ header e in
    let b = bind_ok (number_at text a.0) _ header a.2 in
    let c = bind_ok (gap_at text b.0.1) _ header b.2 in
    let d = bind_ok (number_at text c.0) _ header c.2 in
    let f = bind_ok (gap_at text d.0.1) _ header d.2 in
    let g = bind_ok (number_at text f.0) _ header f.2 in
    let h = bind_ok (space_at text g.0.1) _ header g.2 in
    let wide : 0 < b.0.0 = number_above text a.0 b.0 b.1 in
    let high : 0 < d.0.0 = number_above text c.0 d.0 d.1 in
    let w : b.0.0 ≡ header.width = ap (λ r. (sides r).0) h.2 in
    let v : d.0.0 ≡ header.height = ap (λ r. (sides r).1) h.2 in
    (omega arith, omega arith)

bounds_test : (big fits : Bool) (found header : Header) (maxval size : PgmFault) → cond big (Err maxval) (cond fits (Ok found) (Err size)) ≡ Ok header
    → (fits ≡ true) × (found ≡ header)
bounds_test true fits found header maxval size e = absurd cc
bounds_test false true found header maxval size e = (refl, cc)
bounds_test false false found header maxval size e = absurd cc

bounds_sized : (at : ℕ) (text : List ℕ) (read : Result Header ℕ) (header : Header) → header_at text ≡ read → in_bounds at read ≡ Ok header
    → IsSized header.width header.height
bounds_sized at text (Err offset) header is e = absurd cc
bounds_sized at text (Ok found) header is e =
    let t = bounds_test _ _ found header _ _ e in
    let fits = and_parts (nat_le found.width 4096) (nat_le found.height 4096) t.0 in
    let above = header_sides text found is in
    subst (λ (h : Header). IsSized h.width h.height) t.1
    (record {
      width_above = above.0;
      width_below = leb-true found.width 4096 fits.0;
      height_above = above.1;
      height_below = leb-true found.height 4096
          fits.1;
    })

raster_test : (short : Bool) (fault : PgmFault) (page : Gray) (size : ℕ) (found : Gray × ℕ) → cond short (Err fault) (Ok (page, size)) ≡ Ok found
    → page ≡ found.0
raster_test true fault page size found e = absurd cc
raster_test false fault page size found e = cc

image_sized : (at : ℕ) (text : List ℕ) (found : Gray × ℕ) → image_at at text ≡ Ok found → IsSizedGray found.0
unfolding image_at raster
image_sized at text found e =
    let a : (h : Header) × (in_bounds at (header_at text) ≡ Ok h) × (raster h text ≡ Ok found) = bind_ok (in_bounds at (header_at text))
    (λ header. raster header text) found e in
    subst IsSizedGray (raster_test _ _ _ _ found a.2) (bounds_sized at text (header_at text) a.0 refl a.1)

choices : (none raw : Bool) (bad : PgmFault) (image : Result (Option (Gray × Unread)) PgmFault) (found : Gray × Unread)
    → cond none (Ok None) (cond raw image (Err bad)) ≡ Ok (Some found) → image ≡ Ok (Some found)
choices true raw bad image found e = absurd cc
choices false true bad image found e = e
choices false false bad image found e = absurd cc

page_in : Gray → Result (Option (Gray × Unread)) PgmFault → Gray
page_in other (Ok (Some found)) = found.0
page_in other (Ok None) = other
page_in other (Err fault) = other

stepped : (old : Unread) (read : Result (Gray × ℕ) PgmFault) (found : Gray × Unread) → (read >>= step_over old) ≡ Ok (Some found)
    → (image : Gray × ℕ) × (read ≡ Ok image) × (image.0 ≡ found.0)
unfolding page_in
stepped old (Ok image) found e = (image, refl, ap (page_in image.0) e)
stepped old (Err fault) found e = absurd cc

next_sized : (unread : Unread) (found : Gray × Unread) → next_of unread ≡ Ok (Some found) → IsSizedGray found.0
unfolding next_of
next_sized unread found e =
    let s = stepped unread (image_at unread.at unread.text) found
    (choices (length unread.text == 0) (is_raw unread.text) (BadMagic unread.at) (image_at unread.at unread.text >>= step_over unread) found e) in
    subst IsSizedGray s.2 (image_sized unread.at unread.text s.0 s.1)

onwards_sized : (images : Unread → Images) (r : Result (Option (Gray × Unread)) PgmFault)
    → ((found : Gray × Unread) → r ≡ Ok (Some found) → IsSizedGray found.0) → ((new : Unread) → All IsSizedGray (images new).pages) → All IsSizedGray
    (onwards images r).pages
onwards_sized images (Ok (Some found)) first others = All-cons IsSizedGray found.0 (images found.1).pages (first found refl) (others found.1)
onwards_sized images (Ok None) first others = All-nil IsSizedGray
onwards_sized images (Err fault) first others = All-nil IsSizedGray

within_sized : (n : ℕ) (unread : Unread) → All IsSizedGray (images_within n unread).pages
within_sized zero unread = All-nil IsSizedGray
within_sized (suc n) unread = onwards_sized (images_within n) (next_of unread) (next_sized unread) (within_sized n)

pub images_sized : (bytes : List ℕ) → All IsSizedGray (images_of bytes).pages
unfolding images_of images_left
images_sized bytes = within_sized (length bytes + 1) (whole bytes)
