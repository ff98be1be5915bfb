-- Sets of places of the paper as a scan shows them.
use Rattle.vx_plane.specs.Plane.{Pixels}
use Rattle.vx_geom.specs.Slants.{Slant, paper_column, paper_row, scan_column, scan_row}

-- a set of the paper as a scan shows it
abbrev pub seen : Slant → Pixels → Pixels
seen s set u v = set (paper_column s u v) (paper_row s u v)

-- a set of the scan, laid back on the paper
abbrev pub laid_back : Slant → Pixels → Pixels
laid_back s set x y = set (scan_column s x y) (scan_row s x y)
