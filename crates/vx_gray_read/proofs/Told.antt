-- The images of a file that holds what a `gray` wrote.
use Rattle.std.proofs.Common.{◌≡◌, ◌≤◌, ℕ, zero, suc, List, [], ◌∷◌, ◌++◌, map, length, Bool, cond, Option, Some, None, Result, Ok, Err, ap, ◌∙◌}
use Rattle.std.specs.Prelude.{slice_get}
use Rattle.std.proofs.lemmas.Option.{same_Some}
use Rattle.vx_base.proofs.Numbers.{below-no}
use Rattle.vx_plane.specs.Plane.{Page}
use Rattle.vx_io.specs.Outside.{Files}
use Rattle.vx_pbm.specs.Images.{Images, images_of as bitmaps_of}
use Rattle.vx_gray.specs.Gray.{Gray, bits_of}
use Rattle.vx_command.specs.declared.halt.Halt.{Halt}
use Rattle.vx_command.specs.declared.halt.Halt.TheVariants as halt
use Rattle.vx_command.specs.Acts.{input_limit, input_of}
use Rattle.vx_command.specs.Images.{images_and, images_in, unless_faulty_before}
use Rattle.vx_command.specs.Texts.{Wrote}
use Rattle.vx_command_gray.specs.Bitmaps.{grays_in, bitmaps_text, BitmapsAreWritten, BitmapsReadBack}
use Rattle.vx_command_gray.specs.Status.{answer_of}
use Rattle.vx_gray_read.specs.Told.{HoldBitmaps, BitmapsAreImages}

-- what was written is the text of all bitmaps
written-is : BitmapsAreWritten → (scans : List (List ℕ)) (files : Files) (bitmaps : List ℕ) (later : Files) (hold : HoldBitmaps scans files bitmaps later)
    → hold.written ≡ bitmaps_text (grays_in files 1 scans)
written-is written scans files bitmaps later hold =
    let wrote : Wrote (bitmaps_text (grays_in files 1 scans)) (Some []) (Some hold.written) (answer_of hold.status) =
    written files scans (Some []) (Some hold.written) hold.status hold.done in
    same_Some hold.written (bitmaps_text (grays_in files 1 scans)) (wrote.whole hold.not_off)

-- an input that isn't too long is taken whole
taken-whole : (word : ℕ) (bytes : List ℕ) → length bytes ≤ input_limit → input_of word input_limit (Some bytes) ≡ Ok bytes
taken-whole word bytes fits =
    ap (λ (long : Bool). cond long (Err (halt.TooLong word (length bytes))) (Ok bytes)) (below-no input_limit (length bytes) fits)

-- the images of an input without a fault, and then more
whole-and : (bytes : List ℕ) (pages more : List Page) → bitmaps_of bytes ≡ record { pages = pages; fault = None } → images_and (Ok bytes) more ≡ pages ++ more
whole-and bytes pages more is = ap (λ (images : Images). images.pages ++ unless_faulty_before images.fault more) is

-- the images of such a file are the bits of the images of the scans
pub hold-images : BitmapsAreWritten → BitmapsReadBack → BitmapsAreImages
hold-images written back scans files bitmaps later hold more =
    let grays : List Gray = grays_in files 1 scans in
    ap (λ (file : Option (List ℕ)). images_and (input_of 2 input_limit file) (images_in later 3 more)) hold.bitmaps_are
    ∙ (ap (λ (input : Result (List ℕ) Halt). images_and input (images_in later 3 more)) (taken-whole 2 hold.written hold.fits)
    ∙ whole-and hold.written (map bits_of grays) (images_in later 3 more)
    (ap bitmaps_of (written-is written scans files bitmaps later hold) ∙ back files scans))

-- an element of a list is one of that list with more behind it
pub in-front : {X : Type 0} (xs ys : List X) (n : ℕ) (x : X) → slice_get xs n ≡ Some x → slice_get (xs ++ ys) n ≡ Some x
in-front [] ys n x h = absurd cc
in-front (y ∷ xs) ys zero x h = h
in-front (y ∷ xs) ys (suc n) x h = in-front xs ys n x h
