-- The border of a scan: its timing marks, each found from one before it. This project's own rule.
-- Marks are told by the last grid row of the paper, so that each rule stands once for both papers.
use Rattle.std.specs.Prelude.{◌≡◌, ◌<◌, ℕ, nat_lt, if◌then◌else◌, List, length, Result, Ok, Err}
use Rattle.vx_plane.specs.Plane.{Page}
use Rattle.vx_grid.specs.declared.paper.Paper.{Paper}
use Rattle.vx_grid.specs.declared.places.Point.{Point}
use Rattle.vx_grid.specs.declared.side.Side.{Side}
use Rattle.vx_grid.specs.declared.side.Side.TheVariants.{Top, Right, Left, Bottom}
use Rattle.vx_grid.specs.Paper.{last_row}
use Rattle.vx_grid.specs.Marks.{first_right, first_left, first_bottom, marks, mark_of}
use Rattle.vx_grid.specs.Borders.{MarkPlaces}
use Rattle.vx_mark_model.specs.Corner.{IsCorner}
use Rattle.vx_mark_model.specs.Best.{IsNear, IsBest}
use Rattle.vx_mark_model.specs.declared.fault.BorderFault.{BorderFault}
use Rattle.vx_mark_model.specs.declared.fault.BorderFault.TheVariants.{NoCorner, NoMark, OpenBorder}
use Rattle.vx_mark_model.specs.Following.{is_in_row, prediction_of, IsFollowed, AreAllFollowed, end_of, right_end_of, Closes}

-- the side of the page that a mark stands on
abbrev pub side_of : ℕ → ℕ → Side
side_of last k =
    if nat_lt k first_right then Top
    else if nat_lt k (first_left last) then Right
    else if nat_lt k (first_bottom last) then Left
    else Bottom

-- a mark's place on its side: its column in a row, its row in a column
abbrev pub index_of : ℕ → ℕ → ℕ
index_of last k = if is_in_row last k then (mark_of last k).0 else (mark_of last k).1

-- a followed list of all marks that closes
pub record IsBorder (paper : Paper) (page : Page) (border : MarkPlaces) : Type 0 where
  pub of_paper : border.paper ≡ paper
  pub all : length border.places ≡ marks paper
  pub followed : AreAllFollowed paper page border.places
  pub closes : Closes (last_row paper) border.places

-- a mark is the first that isn't found
pub record LacksMark (paper : Paper) (page : Page) (side : Side) (index : ℕ) (predicted : Point) : Type 0 where
  pub mark : ℕ
  pub later : 0 < mark
  pub number : mark < marks paper
  pub side_is : side ≡ side_of (last_row paper) mark
  pub index_is : index ≡ index_of (last_row paper) mark
  pub places : List Point
  pub followed : IsFollowed page (last_row paper) mark places
  pub predicted_is : predicted ≡ prediction_of (last_row paper) places mark
  pub none : (p : Point) → IsBest page predicted p → ⊥

-- all marks are found, and the bottom row leads elsewhere
pub record StaysOpen (paper : Paper) (page : Page) (predicted found : Point) : Type 0 where
  pub places : List Point
  pub followed : AreAllFollowed paper page places
  pub predicted_is : predicted ≡ end_of (last_row paper) places
  pub found_is : found ≡ right_end_of (last_row paper) places
  pub apart : IsNear predicted found → ⊥

-- the border of a page of a paper, or its first fault
abbrev pub IsBorderOf : Paper → Page → Result MarkPlaces BorderFault → Type 0
IsBorderOf paper page (Ok border) = IsBorder paper page border
IsBorderOf paper page (Err NoCorner) = (p : Point) → IsCorner page p → ⊥
IsBorderOf paper page (Err (NoMark side index predicted)) = LacksMark paper page side index predicted
IsBorderOf paper page (Err (OpenBorder predicted found)) = StaysOpen paper page predicted found

-- a fault of following is the first mark that isn't found
abbrev pub IsLack : Paper → Page → BorderFault → Type 0
IsLack paper page NoCorner = ⊥
IsLack paper page (NoMark side index predicted) = LacksMark paper page side index predicted
IsLack paper page (OpenBorder predicted found) = ⊥
