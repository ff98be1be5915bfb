-- The image that waits is the first of its bitmap.
use Rattle.std.proofs.Common.{◌≡◌, ℕ, Bool, true, false, List, [], take, refl, ap, subst}
use Rattle.std.proofs.lemmas.List.Elements.{All-take}
use Rattle.std.specs.Prelude.{All, MatchBool, Option, None, Some, Ok, Err}
use Rattle.vx_plane.specs.Plane.{Page}
use Rattle.vx_pbm.specs.declared.fault.PbmFault.{PbmFault}
use Rattle.vx_pbm.specs.Faults.{is_no_memory}
use Rattle.vx_pbm.specs.Images.{Unread, whole, next_of, Images, ended, images_left, images_of, Walks, IsWholePage, ImagesAreWhole}
use Rattle.vx_command_count.specs.Gathering.{waits}

-- the first image of bytes
abbrev pub first_of : List ℕ → List Page
first_of bytes = take 1 (images_of bytes).pages

-- no bytes have none
pub none-first : first_of [] ≡ []
unfolding images_of images_left next_of
none-first = refl

abbrev first_in : Images → List Page
first_in images = take 1 images.pages

-- the first that a reader gives
pub read-first : (bytes : List ℕ) (found : Option Page) (new : Unread) → Walks (whole bytes) (Ok found) new → first_of bytes ≡ waits found
unfolding images_of
read-first bytes None new walks = ap first_in walks
read-first bytes (Some image) new walks = ap first_in walks

-- where it gives a fault there is none
pub fault-first : (bytes : List ℕ) (fault : PbmFault) (new : Unread) → is_no_memory fault ≡ false → Walks (whole bytes) (Err fault) new → first_of bytes ≡ []
unfolding images_of
fault-first bytes fault new known walks = by (is_no_memory fault) known walks
  where
    by : (b : Bool) → b ≡ false → MatchBool b (images_left new ≡ images_left (whole bytes)) (images_left (whole bytes) ≡ ended (Some fault)) → first_in (images_left (whole bytes)) ≡ []
    by true known walks = absurd cc
    by false known walks = ap first_in walks

-- it is a whole page
pub whole-first : ImagesAreWhole → (bytes : List ℕ) (found : List Page) → first_of bytes ≡ found → All IsWholePage found
whole-first are bytes found is =
    let Each : List Page → Type 0 = All IsWholePage in
    subst Each is (All-take IsWholePage 1 (images_of bytes).pages (are bytes))
