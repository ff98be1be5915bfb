-- The images of a scan that are taken two at a time.
use Rattle.std.proofs.Common.{◌≡◌, ℕ, zero, suc, ◌+◌, ◌≤◌, List, length, refl, arith}
use Rattle.std.specs.Prelude.{Option, None, Some, Result, Ok, Err}
use Rattle.vx_plane.specs.Plane.{Page}
use Rattle.vx_pbm.specs.declared.fault.PbmFault.{PbmFault}
use Rattle.vx_pbm.specs.Images.{Images, Unread, images_left, images_of, images_within, next_of, onwards, whole}

-- the images of bytes are those that a reader of them has left at first
pub all_left : (bytes : List ℕ) → images_of bytes ≡ images_left (whole bytes)
unfolding images_of
all_left bytes = refl

few_onwards : (images : Unread → Images) (steps : ℕ) → ((unread : Unread) → length (images unread).pages ≤ steps)
    → (found : Result (Option (Page × Unread)) PbmFault) → length (onwards images found).pages ≤ suc steps
few_onwards images steps few (Ok (Some found)) = let f = few found.1 in omega (arith, f)
few_onwards images steps few (Ok None) = omega arith
few_onwards images steps few (Err fault) = omega arith

few_within : (steps : ℕ) (unread : Unread) → length (images_within steps unread).pages ≤ steps
few_within zero unread = omega arith
few_within (suc steps) unread = few_onwards (images_within steps) steps (few_within steps) (next_of unread)

-- no more images than bytes and one
pub few_images : (bytes : List ℕ) → length (images_of bytes).pages ≤ length bytes + 1
unfolding images_of images_left
few_images bytes = few_within (length bytes + 1) (whole bytes)
