-- The border that the function gives is the one of the scan.
use Rattle.std.proofs.Common.{◌≡◌, Bool, true, false, cond, List, Result, Ok, Err, arith, refl}
use Rattle.std.proofs.lemmas.Bool.{both_ways}
use Rattle.vx_plane.specs.Plane.{Page}
use Rattle.vx_grid.specs.declared.paper.Paper.{Paper}
use Rattle.vx_grid.specs.declared.places.Point.{Point}
use Rattle.vx_grid.specs.Paper.{last_row}
use Rattle.vx_grid.specs.Marks.{marks}
use Rattle.vx_grid.specs.Borders.{MarkPlaces}
use Rattle.vx_mark_model.specs.Best.{near}
use Rattle.vx_mark_model.specs.declared.fault.BorderFault.{BorderFault}
use Rattle.vx_mark_model.specs.declared.fault.BorderFault.TheVariants.{NoCorner, NoMark, OpenBorder}
use Rattle.vx_mark_model.specs.Following.{end_of, right_end_of}
use Rattle.vx_mark_model.specs.Border.{IsBorderOf}
use Rattle.vx_mark_model.specs.Laws.{CornerIsFollowed, FollowedGrows, BorderIsOne}
use Rattle.vx_scan_model.specs.Border.{closes, if_closed, marks_of, border_of}
use Rattle.vx_scan_model.proofs.Accepting.{in_from, in_true}
use Rattle.vx_scan_model.proofs.Marks.{AreFollowed, IsLackOf, AreMarksOf, AreMarksOf-marks_of}

module _ (paper : Paper) (page : Page) where
  -- all marks, by the test of the closing
  closed_by : (places : List Point) (test : Bool) → closes (last_row paper) places ≡ test → AreFollowed page (last_row paper) (marks paper) places → IsBorderOf paper page (cond test (Ok (record { paper = paper; places = places })) (Err (OpenBorder (end_of (last_row paper) places) (right_end_of (last_row paper) places))))
  closed_by places true is all = record {
    of_paper = refl;
    all = all.all;
    followed = all.followed (omega arith);
    closes = in_from (near (end_of (last_row paper) places)) (right_end_of (last_row paper) places) is;
  }
  closed_by places false is all = record {
    places = places;
    followed = all.followed (omega arith);
    predicted_is = refl;
    found_is = refl;
    apart = λ close. both_ways (closes (last_row paper) places) is (in_true (near (end_of (last_row paper) places)) (right_end_of (last_row paper) places) close);
  }

  lacking : (fault : BorderFault) → IsLackOf paper page fault → IsBorderOf paper page (Err fault)
  lacking NoCorner h = h
  lacking (NoMark side index predicted) h = h
  lacking (OpenBorder predicted found) h = absurd h

  closed : (found : Result (List Point) BorderFault) → AreMarksOf paper page (marks paper) found → IsBorderOf paper page (if_closed paper found)
  closed (Err fault) h = lacking fault h
  closed (Ok places) h = closed_by places (closes (last_row paper) places) refl h

-- what the function gives is the border of the scan, or its first fault
pub IsBorderOf-border_of : CornerIsFollowed → FollowedGrows → (paper : Paper) (page : Page) → IsBorderOf paper page (border_of paper page)
unfolding border_of
IsBorderOf-border_of corner grows paper page = closed paper page (marks_of page (last_row paper) (marks paper)) (AreMarksOf-marks_of corner grows paper page (marks paper) (omega arith))

-- the border of a scan, or its first fault, is what the function gives
pub border_of-is : CornerIsFollowed → FollowedGrows → BorderIsOne → (paper : Paper) (page : Page) (answer : Result MarkPlaces BorderFault) → IsBorderOf paper page answer → answer ≡ border_of paper page
border_of-is corner grows one paper page answer h = one paper page answer (border_of paper page) h (IsBorderOf-border_of corner grows paper page)
