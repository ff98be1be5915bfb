-- What holds of the desk's data.
use Rattle.std.specs.Prelude.{◌≡◌, ◌↔◌, ◌<◌, ◌+◌, ℕ, true, false, not, List, filter, pos}
use Rattle.vx_plane.specs.Plane.{Page, dark_at}
use Rattle.vx_bits.specs.Packed.{packed_page, raster_of}
use Rattle.vx_election_model.specs.declared.election.Election.{Election}
use Rattle.vx_rules.specs.declared.marks.ContestMarks.{ContestMarks}
use Rattle.vx_rules.specs.declared.marks.SheetMarks.{SheetMarks}
use Rattle.vx_events.specs.declared.event.Event.{Event}
use Rattle.vx_center.specs.Sheets.{Added}
use Rattle.vx_center.specs.Waiting.{exports}
use Rattle.vx_desk.specs.declared.region.Region.{Region}
use Rattle.vx_markup.specs.Laws.{HasNoMarkup}
use Rattle.vx_desk.specs.Kept.{same_sheet}
use Rattle.vx_desk.specs.Lines.{first_text, last_text, sheet_text}
use Rattle.vx_desk.specs.Pictures.{part_of}
use Rattle.vx_desk.specs.Regions.{height_of, width_of}
use Rattle.vx_desk.specs.Waits.{waiting_contests}

-- no line has markup in it, whatever the names, the history and the images are: nothing of the data can end the page's
-- element that holds them
pub record DataIsNoMarkup : Type 0 where
  pub first : (election : Election) (batch : List ℕ) → HasNoMarkup (first_text election batch)
  pub sheet :
      (election : Election) (kept : List Event) (batch scan : List ℕ) (number : ℕ) (first second : Page)
      → HasNoMarkup (sheet_text election kept batch scan number first second)
  pub last :
      (election : Election) (kept : List Event) (batch : List ℕ) (sheets : ℕ)
      → HasNoMarkup (last_text election kept batch sheets)

-- the contests of a sheet's line are those that the center doesn't export, in the sheet's order
abbrev pub DeskTellsWhatWaits : Type 0
DeskTellsWhatWaits =
    (election : Election) (kept : List Event) (added : Added)
    → waiting_contests election kept added.key added.sheet
    ≡ filter (λ (marks : ContestMarks). not (exports election kept added marks)) added.sheet.contests

-- a pixel of a picture is the page's pixel so many columns and rows further, and its raster shows the picture
pub record PicturesShowTheScan : Type 0 where
  pub pixel :
      (page : Page) (region : Region) (x y : ℕ) → x < width_of region → y < height_of region
      → dark_at (part_of page region) (pos x) (pos y) ≡ dark_at page (pos (x + region.left)) (pos (y + region.top))
  pub raster :
      (page : Page) (region : Region)
      → packed_page (width_of region) (height_of region) (raster_of (part_of page region)) ≡ part_of page region

-- two sheets are the same in all exactly where they are equal
abbrev pub SameSheetsAreEqual : Type 0
SameSheetsAreEqual = (one other : SheetMarks) → (same_sheet one other ≡ true) ↔ (one ≡ other)
