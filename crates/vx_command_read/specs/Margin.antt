-- What `read` tells of scans that fit printed pages: in the place of each of them among the texts of all images stands
-- the block of its page, with its marks.
use Rattle.std.specs.Prelude.{◌≡◌, ℕ, ◌+◌, List, [], ◌∷◌, ◌++◌, map, codes, take, drop, slice_get, Bool, Some, Ok}
use Rattle.vx_plane.specs.Plane.{Page}
use Rattle.vx_grid.specs.declared.places.Point.{Point}
use Rattle.vx_election_model.specs.declared.election.Election.{Election}
use Rattle.vx_io.specs.Outside.{Files}
use Rattle.vx_layout.specs.declared.pages.PagePlan.{PagePlan}
use Rattle.vx_layout.specs.declared.plan.CardPlan.{CardPlan}
use Rattle.vx_layout.specs.Printed.{PrintedPage, code_of}
use Rattle.vx_scan_model.specs.Fits.{Fits, state_of_mark}
use Rattle.vx_command.specs.Acts.{Answer}
use Rattle.vx_command.specs.Done.{Taken, Held, IsDone}
use Rattle.vx_command.specs.Elections.{election_in, plans_in}
use Rattle.vx_command.specs.Images.{images_in}
use Rattle.vx_command.specs.Texts.{Wrote}
use Rattle.vx_readings.specs.ReadingText.{line_of, page_line, border_line, bubble_lines, image_text}
use Rattle.vx_command_read.specs.Outcome.{read_outcome}

-- the text of the image with a number is the block of a printed page: its card, its side, its kind, turned or not, the
-- places of some border, and for each of its bubbles a score and what it is: marked where it is one of the marks, else
-- clear
pub record IsBlockOf (election : Election) (number : ℕ) (printed : PrintedPage) (plan : PagePlan) (marks : List Bool)
    (text : List ℕ) : Type 0 where
  pub turned : Bool
  pub border : List Point
  pub scores : List ℕ
  pub text_is :
      text
      ≡ page_line number (code_of election printed) turned ++ border_line border
      ++ bubble_lines plan.bubbles scores (map state_of_mark marks) ++ line_of (codes "end" ∷ [])

-- what is written of images, one after another, the first of which has a number
abbrev pub texts_of_images : Election → ℕ → List Page → List ℕ
texts_of_images election number [] = []
texts_of_images election number (page ∷ pages) =
    image_text election number page ++ texts_of_images election (number + 1) pages

-- the texts of all images, with a block in the place of one of them; places are counted from 0, images from 1
abbrev pub texts_round : Election → List Page → ℕ → List ℕ → List ℕ
texts_round election images place block =
    texts_of_images election 1 (take place images)
    ++ (block ++ texts_of_images election (place + 2) (drop (place + 1) images))

-- a command told the image in a place as a printed page with marks: what it wrote has that page's block there, between
-- the texts of the images before it and those of the images behind it
pub record TellsImage (election : Election) (images : List Page) (place : ℕ) (printed : PrintedPage) (plan : PagePlan)
    (marks : List Bool) (taken taken_now : Taken) (answer : Answer) : Type 0 where
  pub block : List ℕ
  pub is_block : IsBlockOf election (place + 1) printed plan marks block
  pub wrote : Wrote (texts_round election images place block) taken taken_now answer

-- so it told each image that fits a printed page with some marks
abbrev pub TellsWhatFits : Election → List Page → Taken → Taken → Answer → Type 0
TellsWhatFits election images taken taken_now answer =
    (place : ℕ) (image : Page) (printed : PrintedPage) (plan : PagePlan) (marks : List Bool)
    → slice_get images place ≡ Some image → Fits election image printed plan marks
    → TellsImage election images place printed plan marks taken taken_now answer

-- so `read` tells the images of scans, where the election under a name can be read and its cards can be planned
abbrev pub ReadTellsWhatFits : List ℕ → List (List ℕ) → Files → Taken → Taken → Answer → Type 0
ReadTellsWhatFits name scans files taken taken_now answer =
    (election : Election) (plans : List CardPlan)
    → election_in (files name) ≡ Ok election → plans_in election ≡ Ok plans
    → TellsWhatFits election (images_in files 2 scans) taken taken_now answer

-- whatever stands of the acts of `read`, it tells what fits
abbrev pub FittingScansAreTold : Type 0
FittingScansAreTold =
    (name : List ℕ) (scans : List (List ℕ)) (files : Files)
    (taken taken_now : Taken) (held held_now : Held) (answer : Answer)
    → IsDone (read_outcome name scans files) taken taken_now held held_now answer
    → ReadTellsWhatFits name scans files taken taken_now answer
