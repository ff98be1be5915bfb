-- Images that are gathered from a scan.
use Rattle.std.specs.Prelude.{◌≡◌, ◌<◌, ℕ, ◌++◌, ◌∷◌, [], List, All, length, Option, Some, None}
use Rattle.vx_plane.specs.Plane.{Page}
use Rattle.vx_pbm.specs.Images.{Unread, Images, images_left, ended, IsWholePage}
use Rattle.vx_command_count.specs.declared.gathering.Ended.{Ended}
use Rattle.vx_command_count.specs.declared.gathering.Ended.TheVariants.{NotYet, AtEnd, AtFault}

-- the images that come behind those that were gathered
abbrev pub left_by : Ended → Unread → Images
left_by NotYet unread = images_left unread
left_by AtEnd unread = ended None
left_by (AtFault fault) unread = ended (Some fault)

-- images were moved from those that are left behind those that were gathered
pub record Gathers (old : List Page) (left : Images) (new : List Page) (left_now : Images) : Type 0 where
  pub pages : new ++ left_now.pages ≡ old ++ left.pages
  pub fault : left_now.fault ≡ left.fault

-- the list of an image that may be there
abbrev pub waits : Option Page → List Page
waits None = []
waits (Some image) = image ∷ []

-- where more may come, so many were gathered, and some of the text was read
abbrev pub IsFilled : ℕ → List Page → Unread → Unread → Ended → Type 0
IsFilled most new before now NotYet = (length new ≡ most) × (length now.text < length before.text)
IsFilled most new before now AtEnd = Unit {0}
IsFilled most new before now (AtFault fault) = Unit {0}

-- what was left of a scan when a piece of it was counted: an image may be left over at its end
pub record LeavesPiece (first : Option Page) (unread : Unread) (last : Option Page) (unread_now : Unread) (ended : Ended)
    : Type 0 where
  pub fault : (left_by ended unread_now).fault ≡ (images_left unread).fault
  pub whole : All IsWholePage (waits first ++ (images_left unread).pages) → All IsWholePage (waits last ++ (left_by ended unread_now).pages)
  pub goes_on : IsFilled 0 (waits last) unread unread_now ended
