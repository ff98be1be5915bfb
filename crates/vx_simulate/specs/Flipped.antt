-- Flips one at a time.
use Rattle.std.specs.Prelude.{◌&&◌, not}
use Rattle.std.specs.Ordering.{int_eq}
use Rattle.vx_plane.specs.Plane.{Pixels}
use Rattle.vx_grid.specs.declared.paper.Paper.{Paper}
use Rattle.vx_grid.specs.declared.places.Point.{Point}
use Rattle.vx_grid.specs.Regions.{frame_zone}
use Rattle.vx_layout.specs.Zones.{code_zones}
use Rattle.vx_geom.specs.Slants.{Slant}
use Rattle.vx_geom.specs.Seen.{seen}

-- one place
abbrev pub only : Point → Pixels
only place u v = int_eq u place.u && int_eq v place.v

-- where a scan shows the frame zone, but no zone of the page code
abbrev pub shown_frame : Slant → Paper → Pixels
shown_frame s paper u v = seen s (frame_zone paper) u v && not (seen s (code_zones paper) u v)

-- the places of a set that lie in another
abbrev pub within : Pixels → Pixels → Pixels
within a b u v = a u v && b u v
