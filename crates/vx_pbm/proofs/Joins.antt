-- Raw images, and other bytes behind them.
use Rattle.std.proofs.Common.{◌≡◌, ◌≢◌, ◌+◌, ◌<◌, ◌≤◌, ◌==◌, ◌&&◌, ℕ, zero, suc, Bool, true, false, cond, List, [], ◌∷◌, ◌++◌, length, drop, Option, Some, None, Result, Ok, Err, arith, refl, ap, sym, ◌∙◌, length-append, length-drop, add_assoc}
use Rattle.std.specs.Option.{option_map}
use Rattle.std.proofs.lemmas.Bool.{ne_eqb, eqb-false}
use Rattle.std.proofs.lemmas.List.{drop-append-le}
use Rattle.vx_plane.specs.Plane.{Page}
use Rattle.vx_pbm.specs.declared.fault.PbmFault.{PbmFault}
use Rattle.vx_pbm.specs.declared.fault.PbmFault.TheVariants.{BadMagic, BadHeader, SizeTooLarge}
use Rattle.vx_pbm.specs.declared.header.Header.{Header}
use Rattle.vx_base.specs.Results.{◌>>=◌}
use Rattle.vx_pbm.specs.Header.{header_at}
use Rattle.vx_pbm.specs.Raster.{in_size, raw_raster, raw_image, is_raw, is_plain}
use Rattle.vx_pbm.specs.Images.{Unread, step_over, next_of, Images, with_page, ended, onwards, images_left, images_of, moved_fault, followed_by, AreRaw}
use Rattle.vx_pbm.proofs.Steps.{raw_not_plain, and_false}
use Rattle.vx_pbm.proofs.Local.{raw_more, raw_within}
use Rattle.vx_pbm.proofs.Walks.{images_step, raw_size}

-- text at an offset, with no plain image before it
abbrev left_at : ℕ → List ℕ → Unread
left_at at text = record { at = at; text = text; behind_plain = false }

-- no plain image begins there
abbrev IsPast : ℕ → List ℕ → Type 0
IsPast at text = ((at == 0) && is_plain text) ≡ false

past_place : (at : ℕ) (text : List ℕ) → 0 < at → IsPast at text
past_place at text some = ap (λ t. t && is_plain text) (ne_eqb at 0 (λ e. omega arith))

-- the first image where no plain image begins
abbrev raw_next : ℕ → List ℕ → Result (Option (Page × Unread)) PbmFault
raw_next at text = cond (length text == 0) (Ok None) (cond (is_raw text) (raw_image at text >>= step_over (left_at at text) false) (Err (BadMagic at)))

past_next : (at : ℕ) (text : List ℕ) → IsPast at text → next_of (left_at at text) ≡ raw_next at text
unfolding next_of
past_next at text past = rw past refl

-- the images of one list of pages and then others
abbrev pages_then : List Page → Images → Images
pages_then pages images = record { pages = pages ++ images.pages; fault = images.fault }

fault_of_end : (fault : PbmFault) → (ended (Some fault)).fault ≡ None → ⊥
fault_of_end fault e = cc

-- the first raw image of a text that leaves the grammar nowhere
pub record FirstRaw (at : ℕ) (text : List ℕ) : Type 0 where
  pub image : Page × ℕ
  pub raw : is_raw text ≡ true
  pub is : raw_image at text ≡ Ok image

first_by : (at : ℕ) (text : List ℕ) (none raw : Bool) (read : Result (Page × ℕ) PbmFault) → none ≡ false → is_raw text ≡ raw → raw_image at text ≡ read → (onwards images_left (cond none (Ok None) (cond raw (read >>= step_over (left_at at text) false) (Err (BadMagic at))))).fault ≡ None → FirstRaw at text
first_by at text true raw read a b c e = absurd cc
first_by at text false true (Ok image) a b c e = record { image = image; raw = b; is = c }
first_by at text false true (Err fault) a b c e = absurd (fault_of_end fault e)
first_by at text false false read a b c e = absurd (fault_of_end (BadMagic at) e)

first_raw : (at : ℕ) (text : List ℕ) → IsPast at text → 0 < length text → (images_left (left_at at text)).fault ≡ None → FirstRaw at text
first_raw at text past some whole =
    first_by at text (length text == 0) (is_raw text) (raw_image at text) (ne_eqb (length text) 0 (λ e. omega arith)) refl refl
    (sym (ap (λ (images : Images). images.fault) (images_step (left_at at text) ∙ ap (onwards images_left) (past_next at text past))) ∙ whole)

stepped_on : (at : ℕ) (text : List ℕ) (image : Page × ℕ) → IsPast at text → 0 < length text → is_raw text ≡ true → raw_image at text ≡ Ok image → images_left (left_at at text) ≡ with_page image.0 (images_left (left_at (at + image.1) (drop image.1 text)))
stepped_on at text image past some raw is =
    images_step (left_at at text)
    ∙ (ap (onwards images_left) (past_next at text past)
    ∙ (ap (λ t. onwards images_left (cond t (Ok None) (cond (is_raw text) (raw_image at text >>= step_over (left_at at text) false) (Err (BadMagic at))))) (ne_eqb (length text) 0 (λ e. omega arith))
    ∙ (ap (λ t. onwards images_left (cond t (raw_image at text >>= step_over (left_at at text) false) (Err (BadMagic at)))) raw
    ∙ ap (λ r. onwards images_left (r >>= step_over (left_at at text) false)) is)))

both_false : (t : Bool) → (t && false) ≡ true → ⊥
both_false true e = cc
both_false false e = cc

raw_longer : (text rest : List ℕ) → is_raw text ≡ true → is_raw (text ++ rest) ≡ true
raw_longer [] rest e = absurd cc
raw_longer (x ∷ []) rest e = absurd (both_false (80 == x) e)
raw_longer (x ∷ y ∷ text) rest e = e

none_left : (at : ℕ) → images_left (left_at at []) ≡ ended None
unfolding next_of
none_left at = images_step (left_at at []) ∙ refl

-- raw images, and bytes behind them, in at most so many steps
joined : (n at : ℕ) (front rest : List ℕ) → length front < n → IsPast at front → IsPast (at + length front) rest → (images_left (left_at at front)).fault ≡ None → images_left (left_at at (front ++ rest)) ≡ pages_then (images_left (left_at at front)).pages (images_left (left_at (at + length front) rest))
joined zero at front rest small past behind whole = absurd (omega arith)
joined (suc n) at [] rest small past behind whole =
    ap (λ k. images_left (left_at k rest)) (omega arith)
    ∙ sym (ap (λ (images : Images). pages_then images.pages (images_left (left_at (at + 0) rest))) (none_left at))
joined (suc n) at (byte ∷ text) rest small past behind whole =
    let front : List ℕ = byte ∷ text in
    let some : 0 < length front = omega arith in
    let first : FirstRaw at front = first_raw at front past some whole in
    let size : ℕ = first.image.1 in
    let taken : 0 < first.image.1 = raw_size at front first.image first.is in
    let fits : first.image.1 ≤ length front = raw_within at front first.image first.is in
    let here : images_left (left_at at front) ≡ with_page first.image.0 (images_left (left_at (at + first.image.1) (drop first.image.1 front))) = stepped_on at front first.image past some first.raw first.is in
    let raw : is_raw (front ++ rest) ≡ true = raw_longer front rest first.raw in
    let both : images_left (left_at at (front ++ rest)) ≡ with_page first.image.0 (images_left (left_at (at + first.image.1) (drop first.image.1 (front ++ rest)))) =
    stepped_on at (front ++ rest) first.image (and_false (at == 0) (is_plain (front ++ rest)) (raw_not_plain (front ++ rest) raw)) (omega (arith, length-append front rest)) raw (raw_more at front rest first.image first.is) in
    let shorter : length (drop first.image.1 front) < n = omega (arith, length-drop first.image.1 front) in
    let end : at + first.image.1 + length (drop first.image.1 front) ≡ at + length front = omega (arith, length-drop first.image.1 front) in
    let later : images_left (left_at (at + first.image.1) (drop first.image.1 front ++ rest)) ≡ pages_then (images_left (left_at (at + first.image.1) (drop first.image.1 front))).pages (images_left (left_at (at + first.image.1 + length (drop first.image.1 front)) rest)) =
    joined n (at + first.image.1) (drop first.image.1 front) rest shorter (past_place (at + first.image.1) (drop first.image.1 front) (omega arith)) (past_place (at + first.image.1 + length (drop first.image.1 front)) rest (omega arith)) (sym (ap (λ (images : Images). images.fault) here) ∙ whole) in
    both
    ∙ (ap (λ bytes. with_page first.image.0 (images_left (left_at (at + first.image.1) bytes))) (drop-append-le first.image.1 front rest fits)
    ∙ (ap (with_page first.image.0) (later ∙ ap (λ k. pages_then (images_left (left_at (at + first.image.1) (drop first.image.1 front))).pages (images_left (left_at k rest))) end)
    ∙ sym (ap (λ (images : Images). pages_then images.pages (images_left (left_at (at + length front) rest))) here)))

-- bytes that others precede
abbrev moved : ℕ → Images → Images
moved size images = record { pages = images.pages; fault = option_map (moved_fault size) images.fault }

-- a reading that others precede: the same, or its fault moved
abbrev moved_read : {A : Type 0} → ℕ → Result A PbmFault → Result A PbmFault
moved_read size (Ok x) = Ok x
moved_read size (Err fault) = Err (moved_fault size fault)

moved_test : {A : Type 0} (t : Bool) (size : ℕ) (x : A) (fault : PbmFault) → moved_fault size fault ≡ fault → cond t (Ok x) (Err fault) ≡ moved_read size (cond t (Ok x) (Err fault))
moved_test true size x fault same = refl
moved_test false size x fault same = ap Err (sym same)

moved_raster_test : (t : Bool) (size : ℕ) (x : Page × ℕ) (fault : PbmFault) → moved_fault size fault ≡ fault → cond t (Err fault) (Ok x) ≡ moved_read size (cond t (Err fault) (Ok x))
moved_raster_test true size x fault same = ap Err (sym same)
moved_raster_test false size x fault same = refl

moved_in_size : (size at : ℕ) (read : Result Header ℕ) → in_size (size + at) read ≡ moved_read size (in_size at read)
moved_in_size size at (Err offset) = ap (λ n. Err (BadHeader n)) (add_assoc size at offset)
moved_in_size size at (Ok header) = moved_test _ size header (SizeTooLarge header.width header.height) refl

moved_raw_raster : (size : ℕ) (header : Header) (text : List ℕ) → raw_raster header text ≡ moved_read size (raw_raster header text)
unfolding raw_raster
moved_raw_raster size header text = moved_raster_test _ size _ _ refl

moved_bind : {A B : Type 0} (size : ℕ) (r : Result A PbmFault) (f : A → Result B PbmFault) → ((x : A) → f x ≡ moved_read size (f x)) → (moved_read size r >>= f) ≡ moved_read size (r >>= f)
moved_bind size (Ok x) f same = same x
moved_bind size (Err fault) f same = refl

moved_raw : (size at : ℕ) (text : List ℕ) → raw_image (size + at) text ≡ moved_read size (raw_image at text)
unfolding raw_image
moved_raw size at text =
    ap (λ r. r >>= λ header. raw_raster header text) (moved_in_size size at (header_at text))
    ∙ moved_bind size (in_size at (header_at text)) (λ header. raw_raster header text) (λ header. moved_raw_raster size header text)

moved_choice : (size at : ℕ) (text : List ℕ) (none raw : Bool) (read : Result (Page × ℕ) PbmFault) → ((image : Page × ℕ) → read ≡ Ok image → none ≡ false → images_left (left_at (size + at + image.1) (drop image.1 text)) ≡ moved size (images_left (left_at (at + image.1) (drop image.1 text)))) → onwards images_left (cond none (Ok None) (cond raw (moved_read size read >>= step_over (left_at (size + at) text) false) (Err (BadMagic (size + at))))) ≡ moved size (onwards images_left (cond none (Ok None) (cond raw (read >>= step_over (left_at at text) false) (Err (BadMagic at)))))
moved_choice size at text true raw read later = refl
moved_choice size at text false true (Ok image) later = ap (with_page image.0) (later image refl refl)
moved_choice size at text false true (Err fault) later = refl
moved_choice size at text false false read later = refl

-- the images of bytes that others precede
moved_images : (n size at : ℕ) (text : List ℕ) → length text < n → IsPast at text → IsPast (size + at) text → images_left (left_at (size + at) text) ≡ moved size (images_left (left_at at text))
moved_images zero size at text small past far = absurd (omega arith)
moved_images (suc n) size at text small past far =
    images_step (left_at (size + at) text)
    ∙ (ap (onwards images_left) (past_next (size + at) text far)
    ∙ (ap (λ r. onwards images_left (cond (length text == 0) (Ok None) (cond (is_raw text) (r >>= step_over (left_at (size + at) text) false) (Err (BadMagic (size + at)))))) (moved_raw size at text)
    ∙ (moved_choice size at text (length text == 0) (is_raw text) (raw_image at text) (λ image is nonempty.
    let ne : length text ≢ 0 = eqb-false (length text) 0 nonempty in
    let taken : 0 < image.1 = raw_size at text image is in
    ap (λ k. images_left (left_at k (drop image.1 text))) (add_assoc size at image.1)
    ∙ moved_images n size (at + image.1) (drop image.1 text) (omega (arith, length-drop image.1 text)) (past_place (at + image.1) (drop image.1 text) (omega arith)) (past_place (size + (at + image.1)) (drop image.1 text) (omega arith)))
    ∙ sym (ap (moved size) (images_step (left_at at text) ∙ ap (onwards images_left) (past_next at text past))))))

-- raw images, and bytes behind them that don't begin as a plain image does
pub joins_raw_images : (front rest : List ℕ) → AreRaw front → is_plain rest ≡ false → images_of (front ++ rest) ≡ followed_by (images_of front) (length front) (images_of rest)
unfolding images_of
joins_raw_images front rest raw no_plain =
    joined (length front + 1) 0 front rest (omega arith) raw.no_plain (and_false ((0 + length front) == 0) (is_plain rest) no_plain) raw.whole
    ∙ (ap (λ k. pages_then (images_left (left_at 0 front)).pages (images_left (left_at k rest))) (omega arith)
    ∙ ap (pages_then (images_left (left_at 0 front)).pages) (moved_images (length rest + 1) (length front) 0 rest (omega arith) no_plain (and_false ((length front + 0) == 0) (is_plain rest) no_plain)))
