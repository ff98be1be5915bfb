use Rattle.std.proofs.Common.{◌≡◌, take}
use Rattle.vx_plane.specs.Plane.{painted, any_of}
use Rattle.vx_layout.specs.Print.{line_pixels}
use Rattle.vx_raster.proofs.text.paint_texts.Given as goal

-- the lines so far are painted
abbrev pub invariant-loop-line : goal.invariant-loop-line
invariant-loop-line l = l.page ≡ painted l.fn.page (any_of (take l.line-index l.texts) line_pixels)
