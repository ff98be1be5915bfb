-- Laws of walks over all images that are left.
use Rattle.std.proofs.Common.{◌≡◌, ◌≢◌, ◌+◌, ◌*◌, ◌<◌, ◌≤◌, ◌==◌, ◌⊎◌, ℕ, zero, suc, Bool, true, false, cond, List, [], ◌∷◌, length, drop, Option, Some, None, Result, Ok, Err, inl, inr, arith, refl, ap, ◌∙◌, add-one, length-drop}
use Rattle.std.specs.Bool.{MatchBool}
use Rattle.std.proofs.lemmas.Bool.{eqb-false}
use Rattle.vx_plane.specs.Plane.{Page}
use Rattle.vx_bits.specs.Packed.{stride_of}
use Rattle.vx_pbm.specs.declared.fault.PbmFault.{PbmFault}
use Rattle.vx_pbm.specs.declared.fault.PbmFault.TheVariants.{BadMagic, SizeTooLarge, Truncated, BadPixel, TrailingPlain}
use Rattle.vx_pbm.specs.declared.header.Header.{Header}
use Rattle.vx_base.specs.Results.{◌>>=◌}
use Rattle.vx_pbm.specs.Header.{header_at, is_space}
use Rattle.vx_pbm.specs.Raster.{in_size, raw_raster, raw_image, plain_raster, plain_image, raster_end, is_pixel, is_raw}
use Rattle.vx_pbm.specs.Faults.{is_no_memory}
use Rattle.vx_pbm.specs.Images.{Unread, goes_on, may_be_plain, step_over, next_of, Images, with_page, ended, onwards, images_within, images_left, Walks}
use Rattle.vx_pbm.specs.Step.{Finds}
use Rattle.vx_base.proofs.Results.{bind_ok}
use Rattle.vx_pbm.proofs.Parts.{header_size}

header_test : (t : Bool) (header found : Header) (fault : PbmFault) → cond t (Ok header) (Err fault) ≡ Ok found → header ≡ found
header_test true header found fault e = cc
header_test false header found fault e = absurd cc

pub sized_header : (at : ℕ) (read : Result Header ℕ) (header : Header) → in_size at read ≡ Ok header → read ≡ Ok header
sized_header at (Err offset) header e = absurd cc
sized_header at (Ok found) header e = ap Ok (header_test _ found header (SizeTooLarge found.width found.height) e)

raw_test : (t : Bool) (fault : PbmFault) (page : Page) (whole : ℕ) (found : Page × ℕ) → cond t (Err fault) (Ok (page, whole)) ≡ Ok found → whole ≡ found.1
raw_test true fault page whole found e = absurd cc
raw_test false fault page whole found e = cc

-- a raw image takes a byte at least
pub raw_size : (at : ℕ) (text : List ℕ) (found : Page × ℕ) → raw_image at text ≡ Ok found → 0 < found.1
unfolding raw_image raw_raster
raw_size at text found e =
    let a : (h : Header) × (in_size at (header_at text) ≡ Ok h) × (raw_raster h text ≡ Ok found) = bind_ok (in_size at (header_at text)) (λ header. raw_raster header text) found e in
    let some : 0 < a.0.size = header_size text a.0 (sized_header at (header_at text) a.0 a.1) in
    let size : a.0.size + a.0.height * stride_of a.0.width ≡ found.1 = raw_test _ _ _ (a.0.size + a.0.height * stride_of a.0.width) found a.2 in
    omega arith

at_end : (t : Bool) (at end : ℕ) (fault : PbmFault) → cond t (Ok at) (Err fault) ≡ Ok end → at ≤ end
at_end true at end fault e = let is : at ≡ end = cc in omega arith
at_end false at end fault e = absurd cc

at_byte : (t u v : Bool) (at end : ℕ) (fault : PbmFault) (pixel space : Result ℕ PbmFault) → (pixel ≡ Ok end → at + 1 ≤ end) → (space ≡ Ok end → at + 1 ≤ end) → cond t (Ok at) (cond u pixel (cond v space (Err fault))) ≡ Ok end → at ≤ end
at_byte true u v at end fault pixel space a b e = let is : at ≡ end = cc in omega arith
at_byte false true v at end fault pixel space a b e = omega (arith, a e)
at_byte false false true at end fault pixel space a b e = omega (arith, b e)
at_byte false false false at end fault pixel space a b e = absurd cc

end_after : (need have at end : ℕ) (text : List ℕ) → raster_end need have at text ≡ Ok end → at ≤ end
end_after need have at end [] e = at_end (have == need) at end (Truncated have need) e
end_after need have at end (byte ∷ rest) e =
    at_byte (have == need) (is_pixel byte) (is_space byte) at end (BadPixel at) (raster_end need (have + 1) (at + 1) rest) (raster_end need have (at + 1) rest)
    (end_after need (have + 1) (at + 1) end rest) (end_after need have (at + 1) end rest) e

plain_raster_size : (header : Header) (text : List ℕ) (found : Page × ℕ) → plain_raster header text ≡ Ok found → header.size ≤ found.1
unfolding plain_raster
plain_raster_size header text found e =
    let b = bind_ok (raster_end (header.height * header.width) 0 header.size (drop header.size text)) _ found e in
    let after : header.size ≤ b.0 = end_after (header.height * header.width) 0 header.size b.0 (drop header.size text) b.1 in
    let size : b.0 ≡ found.1 = cc in
    omega arith

-- a plain image takes a byte at least
pub plain_size : (text : List ℕ) (found : Page × ℕ) → plain_image text ≡ Ok found → 0 < found.1
unfolding plain_image
plain_size text found e =
    let a : (h : Header) × (in_size 0 (header_at text) ≡ Ok h) × (plain_raster h text ≡ Ok found) = bind_ok (in_size 0 (header_at text)) (λ header. plain_raster header text) found e in
    let some : 0 < a.0.size = header_size text a.0 (sized_header 0 (header_at text) a.0 a.1) in
    let within : a.0.size ≤ found.1 = plain_raster_size a.0 text found a.2 in
    omega arith

choices : (b g e p r : Bool) (f1 f2 : PbmFault) (plain raw : Result (Option (Page × Unread)) PbmFault) (found : Page × Unread) → cond b (cond g (Err f1) (Ok None)) (cond e (Ok None) (cond p plain (cond r raw (Err f2)))) ≡ Ok (Some found) → (e ≡ false) × ((plain ≡ Ok (Some found)) ⊎ (raw ≡ Ok (Some found)))
choices true true e p r f1 f2 plain raw found h = absurd cc
choices true false e p r f1 f2 plain raw found h = absurd cc
choices false g true p r f1 f2 plain raw found h = absurd cc
choices false g false true r f1 f2 plain raw found h = (refl, inl h)
choices false g false false true f1 f2 plain raw found h = (refl, inr h)
choices false g false false false f1 f2 plain raw found h = absurd cc

unread_in : Unread → Result (Option (Page × Unread)) PbmFault → Unread
unread_in unread (Ok (Some found)) = found.1
unread_in unread (Ok None) = unread
unread_in unread (Err fault) = unread

stepped : (old : Unread) (plain : Bool) (read : Result (Page × ℕ) PbmFault) (found : Page × Unread) → (read >>= step_over old plain) ≡ Ok (Some found) → (image : Page × ℕ) × (read ≡ Ok image) × (drop image.1 old.text ≡ found.1.text)
unfolding unread_in
stepped old plain (Ok image) found e = (image, refl, ap (λ r. (unread_in old r).text) e)
stepped old plain (Err fault) found e = absurd cc

dropped : (n : ℕ) (text rest : List ℕ) → 0 < n → 0 < length text → drop n text ≡ rest → length rest < length text
dropped n text rest some more e = omega (arith, length-drop n text, ap length e)

-- what is left behind an image is shorter
pub shorter : (old : Unread) (found : Page × Unread) → next_of old ≡ Ok (Some found) → length found.1.text < length old.text
unfolding next_of
shorter old found e =
    let c : ((length old.text == 0) ≡ false) × (((plain_image old.text >>= step_over old true) ≡ Ok (Some found)) ⊎ ((raw_image old.at old.text >>= step_over old false) ≡ Ok (Some found))) =
    choices old.behind_plain (goes_on old.text) (length old.text == 0) (may_be_plain old) (is_raw old.text) (TrailingPlain old.at) (BadMagic old.at) (plain_image old.text >>= step_over old true) (raw_image old.at old.text >>= step_over old false) found e in
    let none : length old.text ≢ 0 = eqb-false (length old.text) 0 c.0 in
    let some : 0 < length old.text = omega arith in
    elim c.1 [
      | inl h ↦
          let s = stepped old true (plain_image old.text) found h in
          dropped s.0.1 old.text found.1.text (plain_size old.text s.0 s.1) some s.2
      | inr h ↦
          let s = stepped old false (raw_image old.at old.text) found h in
          dropped s.0.1 old.text found.1.text (raw_size old.at old.text s.0 s.1) some s.2
    ]

same_onwards : (f g : Unread → Images) (n : ℕ) (r : Result (Option (Page × Unread)) PbmFault) → ((found : Page × Unread) → r ≡ Ok (Some found) → length found.1.text < n) → ((new : Unread) → length new.text < n → f new ≡ g new) → onwards f r ≡ onwards g r
same_onwards f g n (Ok (Some found)) short same = ap (with_page found.0) (same found.1 (short found refl))
same_onwards f g n (Ok None) short same = refl
same_onwards f g n (Err fault) short same = refl

-- more steps than bytes are enough
same_within : (n m : ℕ) (unread : Unread) → length unread.text < n → length unread.text < m → images_within n unread ≡ images_within m unread
same_within zero m unread a b = absurd (omega arith)
same_within (suc n) zero unread a b = absurd (omega arith)
same_within (suc n) (suc m) unread a b =
    same_onwards (images_within n) (images_within m) (length unread.text) (next_of unread) (shorter unread) (λ new l. same_within n m new (omega arith) (omega arith))

-- the images that are left are the first of them and those behind it
pub images_step : (old : Unread) → images_left old ≡ onwards images_left (next_of old)
unfolding images_left
images_step old =
    ap (λ n. images_within n old) (add-one (length old.text))
    ∙ same_onwards (images_within (length old.text)) images_left (length old.text) (next_of old) (shorter old) (λ new l. same_within (length old.text) (length new.text + 1) new l (omega arith))

-- the images that are left, by what a step finds
pub walks_page : (old new : Unread) (page : Page) → next_of old ≡ Ok (Some (page, new)) → images_left old ≡ with_page page (images_left new)
walks_page old new page e = images_step old ∙ ap (onwards images_left) e

pub walks_end : (old : Unread) → next_of old ≡ Ok None → images_left old ≡ ended None
walks_end old e = images_step old ∙ ap (onwards images_left) e

faulted : (memory : Bool) (old : Unread) (fault : PbmFault) → MatchBool memory (may_be_plain old ≡ true) (next_of old ≡ Err fault) → MatchBool memory (images_left old ≡ images_left old) (images_left old ≡ ended (Some fault))
faulted true old fault e = refl
faulted false old fault e = images_step old ∙ ap (onwards images_left) e

pub walks_fault : (bytes : List ℕ) (old : Unread) (fault : PbmFault) → Finds bytes old (Err fault) → Walks old (Err fault) old
walks_fault bytes old fault found = faulted (is_no_memory fault) old fault found
