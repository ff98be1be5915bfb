-- What a scan has to show of a page's marks, boxes and bubbles, so that they are found.
use Rattle.std.specs.Prelude.{◌≡◌, ◌<◌, ◌≤◌, ◌+◌, ℕ, true, ℤ, pos, ◌-ℤ◌, ◌≤ℤ◌}
use Rattle.vx_plane.specs.Plane.{Pixels, Page, rectangle, dark_at}
use Rattle.vx_plane.specs.Count.{count_in}
use Rattle.vx_grid.specs.declared.paper.Paper.{Paper}
use Rattle.vx_grid.specs.declared.places.Point.{Point}
use Rattle.vx_grid.specs.declared.sizes.HalfSides.{HalfSides}
use Rattle.vx_grid.specs.Grid.{x_of, y_of}
use Rattle.vx_grid.specs.Regions.{frame_zone}
use Rattle.vx_grid.specs.Sizes.{round}
use Rattle.vx_mark_model.specs.Mark.{footprint, most_wrong, IsInFrame}
use Rattle.vx_geom.specs.Slants.{Slant, IsSlant, scan_column, scan_row}
use Rattle.vx_geom.specs.Seen.{seen}
use Rattle.vx_grid.specs.Marks.{marks as marks_of}
use Rattle.vx_margin.specs.Marks.{AreMarks, mark_image}
use Rattle.vx_margin.specs.Flips.{flips_in, flips_on, frame_of}

-- the number of places of a set in the footprint of a place
abbrev pub count_at : Point → Pixels → ℕ
count_at p set =
    count_in (p.u -ℤ pos footprint.across) (p.v -ℤ pos footprint.down)
    (footprint.across + footprint.across) (footprint.down + footprint.down) set

-- in no footprint that lies in the frame are more than 20 flips that the frame zone shows
pub record ShowsMarks (s : Slant) (scan : Page) (paper : Paper) (marks : Pixels) : Type 0 where
  pub few : (p : Point) → IsInFrame scan p → count_at p (flips_in s scan marks (frame_zone paper)) ≤ most_wrong

-- each place of a place's footprint is seen in the frame zone
pub record IsInZone (s : Slant) (paper : Paper) (p : Point) : Type 0 where
  pub each :
      (u v : ℤ)
      → rectangle (p.u -ℤ pos footprint.across) (p.v -ℤ pos footprint.down)
      (footprint.across + footprint.across) (footprint.down + footprint.down) u v ≡ true
      → seen s (frame_zone paper) u v ≡ true

-- the scan shows the marks, and the footprint at each mark's image lies in its frame
pub record ShowsBorder (s : Slant) (scan : Page) (paper : Paper) (marks : Pixels) : Type 0 where
  pub slant_is : IsSlant s
  pub marks_are : AreMarks paper marks
  pub shows : ShowsMarks s scan paper marks
  pub in_frame : (k : ℕ) → k < marks_of paper → IsInFrame scan (mark_image s paper k)

-- where the image of the first mark may be: columns 30 to 112, rows 18 to 100
pub record IsInStartRegion (p : Point) : Type 0 where
  pub left : pos 30 ≤ℤ p.u
  pub right : p.u ≤ℤ pos 112
  pub top : pos 18 ≤ℤ p.v
  pub bottom : p.v ≤ℤ pos 100

-- the number of places of a set in such a size round a grid point
abbrev pub count_round : Paper → HalfSides → ℕ → ℕ → Pixels → ℕ
count_round paper half c r set =
    count_in (pos (x_of c) -ℤ pos half.across) (pos (y_of paper r) -ℤ pos half.down)
    (half.across + half.across) (half.down + half.down) set

-- the images of all places of such a size round a grid point lie in the frame, and at most so many of them are
-- flips
pub record ShowsZone (s : Slant) (scan : Page) (paper : Paper) (set : Pixels) (half : HalfSides) (c r most : ℕ) : Type 0 where
  pub in_frame :
      (x y : ℤ) → round half (x_of c) (y_of paper r) x y ≡ true
      → frame_of scan (scan_column s x y) (scan_row s x y) ≡ true
  pub few : count_round paper half c r (flips_on s scan set) ≤ most

-- the dark pixels of a scan in such a size round a place
abbrev pub dark_round : Page → HalfSides → Point → ℕ
dark_round scan half p =
    count_in (p.u -ℤ pos half.across) (p.v -ℤ pos half.down)
    (half.across + half.across) (half.down + half.down) (dark_at scan)
