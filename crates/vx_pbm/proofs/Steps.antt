-- Laws of one step over an image.
use Rattle.std.proofs.Common.{◌≡◌, ◌≢◌, ◌+◌, ◌≤◌, ◌==◌, ◌&&◌, ℕ, Bool, true, false, cond, List, [], ◌∷◌, length, drop, Some, None, Result, Ok, Err, arith, refl, ap, ◌∙◌, zero-add, subst}
use Rattle.std.proofs.lemmas.Bool.{ne_eqb, eq-eqb}
use Rattle.std.proofs.lemmas.Bool.Decides.{nat_tests}
use Rattle.std.proofs.lemmas.List.{drop-drop, length-drop}
use Rattle.vx_plane.specs.Plane.{Page}
use Rattle.vx_pbm.specs.declared.fault.PbmFault.{PbmFault}
use Rattle.vx_pbm.specs.declared.fault.PbmFault.TheVariants.{BadMagic, BadHeader, SizeTooLarge, TrailingPlain}
use Rattle.vx_pbm.specs.declared.header.Header.{Header}
use Rattle.vx_base.specs.Results.{◌>>=◌}
use Rattle.vx_pbm.specs.Faults.{is_no_memory}
use Rattle.vx_pbm.specs.Header.{header_at}
use Rattle.vx_pbm.specs.Raster.{in_size, raw_raster, raw_image, plain_image, is_raw, is_plain}
use Rattle.vx_pbm.specs.Images.{unread_from, goes_on, step_over, next_of}

-- the choices of a step, one after another
chosen_2 : {X : Type 0} (t u : Bool) (x y z : X) → t ≡ false → u ≡ true → cond t x (cond u y z) ≡ y
chosen_2 t u x y z a b = rw (a, b) refl

chosen_3 : {X : Type 0} (t u v : Bool) (x y z w : X) → t ≡ false → u ≡ false → v ≡ true → cond t x (cond u y (cond v z w)) ≡ z
chosen_3 t u v x y z w a b c = rw (a, b, c) refl

pub and_false : (t u : Bool) → u ≡ false → (t && u) ≡ false
and_false true u e = e
and_false false u e = refl

-- no text begins with both magics
pub raw_not_plain : (text : List ℕ) → is_raw text ≡ true → is_plain text ≡ false
raw_not_plain [] e = refl
raw_not_plain (x ∷ []) e = and_false (80 == x) false refl
raw_not_plain (x ∷ y ∷ rest) e = and_false (80 == x) ((49 == y) && true) (grind (arith, nat_tests))

chosen_fault : {X : Type 0} (t : Bool) (x : X) (bad fault : PbmFault) → is_no_memory bad ≡ false → cond t (Ok x) (Err bad) ≡ Err fault → is_no_memory fault ≡ false
chosen_fault true x bad fault other e = absurd cc
chosen_fault false x bad fault other e = let is : bad ≡ fault = cc in subst (λ (f : PbmFault). is_no_memory f ≡ false) is other

size_fault : (at : ℕ) (header : Result Header ℕ) (fault : PbmFault) → in_size at header ≡ Err fault → is_no_memory fault ≡ false
size_fault at (Err offset) fault e = let is : BadHeader (at + offset) ≡ fault = cc in subst (λ (f : PbmFault). is_no_memory f ≡ false) is refl
size_fault at (Ok header) fault e = chosen_fault _ header (SizeTooLarge header.width header.height) fault refl e

unless_fault : {X : Type 0} (t : Bool) (x : X) (bad fault : PbmFault) → is_no_memory bad ≡ false → cond t (Err bad) (Ok x) ≡ Err fault → is_no_memory fault ≡ false
unless_fault true x bad fault other e = let is : bad ≡ fault = cc in subst (λ (f : PbmFault). is_no_memory f ≡ false) is other
unless_fault false x bad fault other e = absurd cc

raster_fault : (header : Header) (text : List ℕ) (fault : PbmFault) → raw_raster header text ≡ Err fault → is_no_memory fault ≡ false
unfolding raw_raster
raster_fault header text fault e = unless_fault _ _ _ fault refl e

bind_fault : {A B : Type 0} (r : Result A PbmFault) (f : A → Result B PbmFault) (fault : PbmFault) → (r ≡ Err fault → is_no_memory fault ≡ false) → ((x : A) → f x ≡ Err fault → is_no_memory fault ≡ false) → (r >>= f) ≡ Err fault → is_no_memory fault ≡ false
bind_fault (Ok x) f fault first then e = then x e
bind_fault (Err bad) f fault first then e = first cc

-- a raw image takes no memory
pub raw_without_memory : (at : ℕ) (text : List ℕ) (fault : PbmFault) → raw_image at text ≡ Err fault → is_no_memory fault ≡ false
unfolding raw_image
raw_without_memory at text fault =
    bind_fault (in_size at (header_at text)) (λ header. raw_raster header text) fault (size_fault at (header_at text) fault) (λ header. raster_fault header text fault)

-- the whole of a plain image
plain_steps : (bytes : List ℕ) → is_plain bytes ≡ true → 2 ≤ length bytes → next_of (unread_from bytes 0 false) ≡ (plain_image bytes >>= step_over (unread_from bytes 0 false) true)
unfolding next_of
plain_steps bytes magic room = chosen_2 (length bytes == 0) (is_plain bytes) _ _ _ (ne_eqb (length bytes) 0 (λ e. omega arith)) magic

pub next_plain : (bytes : List ℕ) (page : Page) (at : ℕ) → is_plain bytes ≡ true → 2 ≤ length bytes → plain_image bytes ≡ Ok (page, at) → next_of (unread_from bytes 0 false) ≡ Ok (Some (page, unread_from bytes at true))
next_plain bytes page at magic room read =
    plain_steps bytes magic room
    ∙ (ap (λ r. r >>= step_over (unread_from bytes 0 false) true) read
    ∙ ap (λ n. Ok (Some (page, record { at = n; text = drop at bytes; behind_plain = true }))) (zero-add at))

pub next_plain_fault : (bytes : List ℕ) (fault : PbmFault) → is_plain bytes ≡ true → 2 ≤ length bytes → plain_image bytes ≡ Err fault → next_of (unread_from bytes 0 false) ≡ Err fault
next_plain_fault bytes fault magic room read =
    plain_steps bytes magic room ∙ ap (λ r. r >>= step_over (unread_from bytes 0 false) true) read

-- a raw image at an offset
raw_steps : (bytes : List ℕ) (at : ℕ) → is_raw (drop at bytes) ≡ true → at + 2 ≤ length bytes → next_of (unread_from bytes at false) ≡ (raw_image at (drop at bytes) >>= step_over (unread_from bytes at false) false)
unfolding next_of
raw_steps bytes at magic room =
    chosen_3 (length (drop at bytes) == 0) ((at == 0) && is_plain (drop at bytes)) (is_raw (drop at bytes)) _ _ _ _ (ne_eqb (length (drop at bytes)) 0 (λ e. omega (arith, length-drop at bytes))) (and_false (at == 0) (is_plain (drop at bytes)) (raw_not_plain (drop at bytes) magic)) magic

pub next_raw : (bytes : List ℕ) (page : Page) (at size : ℕ) → is_raw (drop at bytes) ≡ true → at + 2 ≤ length bytes → raw_image at (drop at bytes) ≡ Ok (page, size) → next_of (unread_from bytes at false) ≡ Ok (Some (page, unread_from bytes (at + size) false))
next_raw bytes page at size magic room read =
    raw_steps bytes at magic room
    ∙ (ap (λ r. r >>= step_over (unread_from bytes at false) false) read
    ∙ ap (λ text. Ok (Some (page, record { at = at + size; text = text; behind_plain = false }))) (drop-drop size at bytes))

pub next_raw_fault : (bytes : List ℕ) (at : ℕ) (fault : PbmFault) → is_raw (drop at bytes) ≡ true → at + 2 ≤ length bytes → raw_image at (drop at bytes) ≡ Err fault → next_of (unread_from bytes at false) ≡ Err fault
next_raw_fault bytes at fault magic room read =
    raw_steps bytes at magic room ∙ ap (λ r. r >>= step_over (unread_from bytes at false) false) read

-- behind a plain image
pub next_behind : (bytes : List ℕ) (at : ℕ) (behind more : Bool) → behind ≡ true → goes_on (drop at bytes) ≡ more → next_of (unread_from bytes at behind) ≡ cond more (Err (TrailingPlain at)) (Ok None)
unfolding next_of
next_behind bytes at behind more is e = rw (is, e) refl

-- at the end
pub next_end : (bytes : List ℕ) (at : ℕ) (behind : Bool) → behind ≡ false → length (drop at bytes) ≡ 0 → next_of (unread_from bytes at behind) ≡ Ok None
unfolding next_of
next_end bytes at behind is e = rw (is, eq-eqb (length (drop at bytes)) 0 e) refl

-- where no magic stands
pub next_bad : (bytes : List ℕ) (at : ℕ) (behind : Bool) → behind ≡ false → length (drop at bytes) ≢ 0 → ((at == 0) && is_plain (drop at bytes)) ≡ false → is_raw (drop at bytes) ≡ false → next_of (unread_from bytes at behind) ≡ Err (BadMagic at)
unfolding next_of
next_bad bytes at behind is some plain raw = rw (is, ne_eqb (length (drop at bytes)) 0 some, plain, raw) refl
