-- Laws of walks over all images that are left.
use Rattle.std.proofs.Common.{◌≡◌, ◌≢◌, ◌+◌, ◌*◌, ◌<◌, ◌==◌, ℕ, zero, suc, Bool, true, false, cond, List, length, drop, Option, Some, None, Result, Ok, Err, arith, refl, ap, ◌∙◌, add-one, length-drop}
use Rattle.std.proofs.lemmas.Bool.{eqb-false}
use Rattle.vx_base.specs.Results.{◌>>=◌}
use Rattle.vx_base.proofs.Results.{bind_ok}
use Rattle.vx_pbm.specs.Header.{gap_at, number_at, space_at, begins_with_space}
use Rattle.vx_gray.specs.declared.fault.PgmFault.{PgmFault}
use Rattle.vx_gray.specs.declared.fault.PgmFault.TheVariants.{BadMagic}
use Rattle.vx_gray.specs.declared.header.Header.{Header}
use Rattle.vx_gray.specs.Gray.{Gray}
use Rattle.vx_gray.specs.Header.{header_at}
use Rattle.vx_gray.specs.Images.{in_bounds, raster, image_at, is_raw, Unread, step_over, next_of, Images, with_page, ended, onwards, images_within, images_left}

given_size : (space : Bool) (at size : ℕ) → cond space (Ok (at + 1)) (Err at) ≡ Ok size → 0 < size
given_size true at size e = let is : at + 1 ≡ size = cc in omega arith
given_size false at size e = absurd cc

space_size : (text : List ℕ) (at size : ℕ) → space_at text at ≡ Ok size → 0 < size
unfolding space_at
space_size text at size e = given_size (begins_with_space (drop at text)) at size e

size_in : Result Header ℕ → ℕ → ℕ
size_in (Ok header) size = header.size
size_in (Err offset) size = size

-- a header takes a byte at least
header_size : (text : List ℕ) (header : Header) → header_at text ≡ Ok header → 0 < header.size
unfolding header_at size_in
header_size text header e =
    let a = bind_ok (gap_at text 2) _ header e in
    let b = bind_ok (number_at text a.0) _ header a.2 in
    let c = bind_ok (gap_at text b.0.1) _ header b.2 in
    let d = bind_ok (number_at text c.0) _ header c.2 in
    let f = bind_ok (gap_at text d.0.1) _ header d.2 in
    let g = bind_ok (number_at text f.0) _ header f.2 in
    let h = bind_ok (space_at text g.0.1) _ header g.2 in
    let some : 0 < h.0 = space_size text g.0.1 h.0 h.1 in
    let is : h.0 ≡ header.size = ap (λ r. size_in r 0) h.2 in
    omega arith

bounds_test : (big fits : Bool) (found header : Header) (maxval size : PgmFault) → cond big (Err maxval) (cond fits (Ok found) (Err size)) ≡ Ok header
    → found ≡ header
bounds_test true fits found header maxval size e = absurd cc
bounds_test false true found header maxval size e = cc
bounds_test false false found header maxval size e = absurd cc

found_header : (at : ℕ) (read : Result Header ℕ) (header : Header) → in_bounds at read ≡ Ok header → read ≡ Ok header
found_header at (Err offset) header e = absurd cc
found_header at (Ok found) header e = ap Ok (bounds_test _ _ found header _ _ e)

raster_test : (short : Bool) (fault : PgmFault) (page : Gray) (size : ℕ) (found : Gray × ℕ) → cond short (Err fault) (Ok (page, size)) ≡ Ok found
    → size ≡ found.1
raster_test true fault page size found e = absurd cc
raster_test false fault page size found e = cc

-- an image takes a byte at least
image_size : (at : ℕ) (text : List ℕ) (found : Gray × ℕ) → image_at at text ≡ Ok found → 0 < found.1
unfolding image_at raster
image_size at text found e =
    let a : (h : Header) × (in_bounds at (header_at text) ≡ Ok h) × (raster h text ≡ Ok found) = bind_ok (in_bounds at (header_at text))
    (λ header. raster header text) found e in
    let some : 0 < a.0.size = header_size text a.0 (found_header at (header_at text) a.0 a.1) in
    let size : a.0.size + a.0.height * a.0.width ≡ found.1 = raster_test _ _ _ (a.0.size + a.0.height * a.0.width) found a.2 in
    omega arith

choices : (none raw : Bool) (bad : PgmFault) (image : Result (Option (Gray × Unread)) PgmFault) (found : Gray × Unread)
    → cond none (Ok None) (cond raw image (Err bad)) ≡ Ok (Some found) → (none ≡ false) × (image ≡ Ok (Some found))
choices true raw bad image found e = absurd cc
choices false true bad image found e = (refl, e)
choices false false bad image found e = absurd cc

unread_in : Unread → Result (Option (Gray × Unread)) PgmFault → Unread
unread_in unread (Ok (Some found)) = found.1
unread_in unread (Ok None) = unread
unread_in unread (Err fault) = unread

stepped : (old : Unread) (read : Result (Gray × ℕ) PgmFault) (found : Gray × Unread) → (read >>= step_over old) ≡ Ok (Some found)
    → (image : Gray × ℕ) × (read ≡ Ok image) × (drop image.1 old.text ≡ found.1.text)
unfolding unread_in
stepped old (Ok image) found e = (image, refl, ap (λ r. (unread_in old r).text) e)
stepped old (Err fault) found e = absurd cc

-- what is left behind an image is shorter
pub shorter : (old : Unread) (found : Gray × Unread) → next_of old ≡ Ok (Some found) → length found.1.text < length old.text
unfolding next_of
shorter old found e =
    let c = choices (length old.text == 0) (is_raw old.text) (BadMagic old.at) (image_at old.at old.text >>= step_over old) found e in
    let none : length old.text ≢ 0 = eqb-false (length old.text) 0 c.0 in
    let s = stepped old (image_at old.at old.text) found c.1 in
    let some : 0 < s.0.1 = image_size old.at old.text s.0 s.1 in
    let rest : length (drop s.0.1 old.text) ≡ length found.1.text = ap length s.2 in
    omega (arith, length-drop s.0.1 old.text)

same_onwards : (f g : Unread → Images) (n : ℕ) (r : Result (Option (Gray × Unread)) PgmFault)
    → ((found : Gray × Unread) → r ≡ Ok (Some found) → length found.1.text < n) →
    ((new : Unread) → length new.text < n → f new ≡ g new) → onwards f r ≡ onwards g r
same_onwards f g n (Ok (Some found)) short same = ap (with_page found.0) (same found.1 (short found refl))
same_onwards f g n (Ok None) short same = refl
same_onwards f g n (Err fault) short same = refl

-- more steps than bytes are enough
same_within : (n m : ℕ) (unread : Unread) → length unread.text < n → length unread.text < m → images_within n unread ≡ images_within m unread
same_within zero m unread a b = absurd (omega arith)
same_within (suc n) zero unread a b = absurd (omega arith)
same_within (suc n) (suc m) unread a b =
    same_onwards (images_within n) (images_within m) (length unread.text) (next_of unread) (shorter unread)
    (λ new l. same_within n m new (omega arith) (omega arith))

-- the images that are left are the first of them and those behind it
pub images_step : (old : Unread) → images_left old ≡ onwards images_left (next_of old)
unfolding images_left
images_step old =
    ap (λ n. images_within n old) (add-one (length old.text))
    ∙ same_onwards (images_within (length old.text)) images_left (length old.text) (next_of old) (shorter old)
    (λ new l. same_within (length old.text) (length new.text + 1) new l (omega arith))

-- the images that are left, by what stands first
pub walks_page : (old new : Unread) (page : Gray) → next_of old ≡ Ok (Some (page, new)) → images_left old ≡ with_page page (images_left new)
walks_page old new page e = images_step old ∙ ap (onwards images_left) e

pub walks_end : (old : Unread) → next_of old ≡ Ok None → images_left old ≡ ended None
walks_end old e = images_step old ∙ ap (onwards images_left) e

pub walks_fault : (old : Unread) (fault : PgmFault) → next_of old ≡ Err fault → images_left old ≡ ended (Some fault)
walks_fault old fault e = images_step old ∙ ap (onwards images_left) e
