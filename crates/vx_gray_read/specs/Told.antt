-- What `read` tells of grayscale scans that `gray` made bitmaps of.
use Rattle.std.specs.Prelude.{◌≡◌, ◌≤◌, ℕ, List, [], ◌∷◌, ◌++◌, map, length, slice_get, Bool, false, Some, Ok}
use Rattle.vx_election_model.specs.declared.election.Election.{Election}
use Rattle.vx_io.specs.Outside.{Files}
use Rattle.vx_layout.specs.declared.pages.PagePlan.{PagePlan}
use Rattle.vx_layout.specs.declared.plan.CardPlan.{CardPlan}
use Rattle.vx_layout.specs.Printed.{PrintedPage}
use Rattle.vx_gray.specs.Fits.{FitsGray}
use Rattle.vx_gray.specs.Gray.{Gray, bits_of}
use Rattle.vx_command.specs.Acts.{Answer, input_limit}
use Rattle.vx_command.specs.Done.{Taken, Held, IsDone}
use Rattle.vx_command.specs.Elections.{election_in, plans_in}
use Rattle.vx_command.specs.Images.{images_in}
use Rattle.vx_command.specs.Texts.{broke_off}
use Rattle.vx_command_gray.specs.declared.status.GrayStatus.{GrayStatus}
use Rattle.vx_command_gray.specs.Bitmaps.{grays_in}
use Rattle.vx_command_gray.specs.Done.{IsGrayDone}
use Rattle.vx_command_gray.specs.Outcome.{gray_outcome}
use Rattle.vx_command_gray.specs.Status.{answer_of}
use Rattle.vx_command_read.specs.Margin.{TellsImage}
use Rattle.vx_command_read.specs.Outcome.{read_outcome}

-- A `gray` of scans came to its end, or to a scan that isn't there, is too long or leaves the grammar, without a device's
-- fault and with memory. What it wrote, to a sink that had taken nothing, is later under one more name, no longer than an
-- input may be.
pub record HoldBitmaps (scans : List (List ℕ)) (files : Files) (bitmaps : List ℕ) (later : Files) : Type 0 where
  pub status : GrayStatus
  pub written : List ℕ
  pub done : IsGrayDone (gray_outcome scans files) (Some []) (Some written) status
  pub not_off : broke_off (answer_of status) ≡ false
  pub bitmaps_are : later bitmaps ≡ Some written
  pub fits : length written ≤ input_limit

-- the images that `read` of that file, and of more behind it, comes to are the bits of the images of the scans, and then
-- the images of the other files
abbrev pub BitmapsAreImages : Type 0
BitmapsAreImages =
    (scans : List (List ℕ)) (files : Files) (bitmaps : List ℕ) (later : Files) → HoldBitmaps scans files bitmaps later
    → (more : List (List ℕ))
    → images_in later 2 (bitmaps ∷ more) ≡ map bits_of (grays_in files 1 scans) ++ images_in later 3 more

-- it told each image of the scans that fits a printed page with some marks as that page, with those marks
abbrev pub TellsWhatFitsGray : Election → List Gray → List ℕ → List (List ℕ) → Files → Taken → Taken → Answer → Type 0
TellsWhatFitsGray election grays bitmaps more later taken taken_now answer =
    (place : ℕ) (gray : Gray) (printed : PrintedPage) (plan : PagePlan) (marks : List Bool)
    → slice_get grays place ≡ Some gray → FitsGray election gray printed plan marks
    → TellsImage election (images_in later 2 (bitmaps ∷ more)) place printed plan marks taken taken_now answer

-- so whatever stands of the acts of `read` of that file, and of more behind it, where the election under a name can be
-- read and its cards can be planned
abbrev pub GrayScansAreTold : Type 0
GrayScansAreTold =
    (scans : List (List ℕ)) (files : Files) (bitmaps : List ℕ) (later : Files) → HoldBitmaps scans files bitmaps later
    → (name : List ℕ) (more : List (List ℕ)) (taken taken_now : Taken) (held held_now : Held) (answer : Answer)
    → IsDone (read_outcome name (bitmaps ∷ more) later) taken taken_now held held_now answer
    → (election : Election) (plans : List CardPlan)
    → election_in (later name) ≡ Ok election → plans_in election ≡ Ok plans
    → TellsWhatFitsGray election (grays_in files 1 scans) bitmaps more later taken taken_now answer
