-- A scan and the same turned by 180 degrees.
use Rattle.std.specs.Prelude.{◌≡◌, ℤ, pos, ◌-ℤ◌}
use Rattle.vx_plane.specs.Plane.{Pixels, Page, dark_at}
use Rattle.vx_grid.specs.declared.paper.Paper.{Paper}
use Rattle.vx_grid.specs.Paper.{page_width, page_height}
use Rattle.vx_geom.specs.Slants.{Slant}
use Rattle.vx_geom.specs.Turned.{turned_slant}

-- a page is another one, turned
pub record IsTurned (page other : Page) : Type 0 where
  pub width : page.width ≡ other.width
  pub height : page.height ≡ other.height
  pub dark :
      (u v : ℤ) → dark_at page u v ≡ dark_at other ((pos page.width -ℤ pos 1) -ℤ u) ((pos page.height -ℤ pos 1) -ℤ v)

-- the last column and row of a paper, and of a page
abbrev pub last_x : ℤ
last_x = pos page_width -ℤ pos 1

abbrev pub last_y : Paper → ℤ
last_y paper = pos (page_height paper) -ℤ pos 1

-- a set of the paper, turned
abbrev pub turned_set : Paper → Pixels → Pixels
turned_set paper set x y = set (last_x -ℤ x) (last_y paper -ℤ y)

-- the slant under which a scan shows the turned paper, where the scan turned shows the paper under a slant
abbrev pub slant_turned : Paper → Page → Slant → Slant
slant_turned paper scan s = turned_slant last_x (last_y paper) (pos scan.width -ℤ pos 1) (pos scan.height -ℤ pos 1) s
