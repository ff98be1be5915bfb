-- Images and pages that are counted.
use Rattle.std.proofs.Common.{◌≡◌, ◌≤◌, ◌+◌, ℕ, List, length, arith, ap}
use Rattle.vx_pbm.specs.declared.fault.PbmFault.TheVariants as bitmap
use Rattle.vx_pbm.specs.Images.{Unread as UnreadImages, whole, images_left, images_of}
use Rattle.vx_readings.specs.declared.fault.ReadingsFault.TheVariants as readings
use Rattle.vx_readings.specs.Readings as said
use Rattle.vx_command_check.specs.Outcome.{counted_unless as images_unless, images_counted}

-- some images were counted, and these are left
pub record CountedTo (bytes : List ℕ) (unread : UnreadImages) (count : ℕ) : Type 0 where
  pub counted : images_counted (images_of bytes) ≡ images_unless (images_left unread).fault (count + length (images_left unread).pages)
  pub room : count + length unread.text ≤ length bytes

pub count-none : (bytes : List ℕ) → CountedTo bytes (whole bytes) 0
unfolding images_of
count-none bytes = record {
  counted =
      (let none : length (images_left (whole bytes)).pages ≡ 0 + length (images_left (whole bytes)).pages = omega arith in
      ap (images_unless (images_left (whole bytes)).fault) none);
  room = omega arith;
}
