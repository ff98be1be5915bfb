-- Pixels of a scan that differ from what the paper shows there.
use Rattle.std.specs.Prelude.{Bool, true, false, not, ◌&&◌, pos}
use Rattle.vx_plane.specs.Plane.{Pixels, Page, rectangle, dark_at}
use Rattle.vx_geom.specs.Slants.{Slant}
use Rattle.vx_geom.specs.Seen.{seen, laid_back}

-- two truth values differ
abbrev pub differ : Bool → Bool → Bool
differ true b = not b
differ false b = b

-- the pixels of the frame
abbrev pub frame_of : Page → Pixels
frame_of page = rectangle (pos 0) (pos 0) page.width page.height

-- a flip: a pixel of the frame that is dark where the paper isn't, or light where it is
unfoldable pub flips : Slant → Page → Pixels → Pixels
flips s scan paper u v = frame_of scan u v && differ (dark_at scan u v) (seen s paper u v)

-- the flips that a zone of the paper shows
abbrev pub flips_in : Slant → Page → Pixels → Pixels → Pixels
flips_in s scan paper zone u v = seen s zone u v && flips s scan paper u v

-- the flips, laid back on the paper
abbrev pub flips_on : Slant → Page → Pixels → Pixels
flips_on s scan paper = laid_back s (flips s scan paper)
