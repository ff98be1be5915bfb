-- What stands first in what is unread.
use Rattle.std.proofs.Common.{◌≡◌, ◌≢◌, ◌+◌, ℕ, true, false, List, length, drop, Some, None, Ok, Err, refl, ap, sym, ◌∙◌, eq-eqb}
use Rattle.std.proofs.lemmas.Bool.{ne_eqb}
use Rattle.std.proofs.lemmas.List.{drop-drop}
use Rattle.vx_base.specs.Results.{◌>>=◌}
use Rattle.vx_gray.specs.declared.fault.PgmFault.{PgmFault}
use Rattle.vx_gray.specs.declared.fault.PgmFault.TheVariants.{BadMagic}
use Rattle.vx_gray.specs.Gray.{Gray}
use Rattle.vx_gray.specs.Images.{Unread, unread_from, next_of, image_at, is_raw, step_over}

-- nothing at the end
pub next_end : (unread : Unread) → length unread.text ≡ 0 → next_of unread ≡ Ok None
unfolding next_of
next_end unread e = rw (eq-eqb (length unread.text) 0 e) refl

-- no image where no magic stands
pub next_bad : (unread : Unread) → length unread.text ≢ 0 → is_raw unread.text ≡ false → next_of unread ≡ Err (BadMagic unread.at)
unfolding next_of
next_bad unread some raw = rw (ne_eqb (length unread.text) 0 some, raw) refl

-- an image where one stands
next_raw : (unread : Unread) → length unread.text ≢ 0 → is_raw unread.text ≡ true → next_of unread ≡ (image_at unread.at unread.text >>= step_over unread)
unfolding next_of
next_raw unread some raw = rw (ne_eqb (length unread.text) 0 some, raw) refl

pub next_image : (unread : Unread) (page : Gray) (size : ℕ) → length unread.text ≢ 0 → is_raw unread.text ≡ true
    → image_at unread.at unread.text ≡ Ok (page, size) → next_of unread ≡ Ok (Some (page, record { at = unread.at + size; text = drop size unread.text }))
next_image unread page size some raw e = next_raw unread some raw ∙ ap (λ r. r >>= step_over unread) e

pub next_fault : (unread : Unread) (fault : PgmFault) → length unread.text ≢ 0 → is_raw unread.text ≡ true
    → image_at unread.at unread.text ≡ Err fault → next_of unread ≡ Err fault
next_fault unread fault some raw e = next_raw unread some raw ∙ ap (λ r. r >>= step_over unread) e

-- the same of bytes that were read up to an offset, by what the code reads of them
pub found_image : (bytes text : List ℕ) (at size : ℕ) (page : Gray) → text ≡ drop at bytes → length (drop at bytes) ≢ 0
    → is_raw (drop at bytes) ≡ true → Ok (page, size) ≡ image_at at text → next_of (unread_from bytes at) ≡ Ok (Some (page, unread_from bytes (at + size)))
found_image bytes text at size page is some raw e =
    next_image (unread_from bytes at) page size some raw (ap (image_at at) (sym is) ∙ sym e)
    ∙ ap (λ rest. Ok (Some (page, record { at = at + size; text = rest }))) (drop-drop size at bytes)

pub found_fault : (bytes text : List ℕ) (at : ℕ) (fault : PgmFault) → text ≡ drop at bytes → length (drop at bytes) ≢ 0
    → is_raw (drop at bytes) ≡ true → Err fault ≡ image_at at text → next_of (unread_from bytes at) ≡ Err fault
found_fault bytes text at fault is some raw e =
    next_fault (unread_from bytes at) fault some raw (ap (image_at at) (sym is) ∙ sym e)
