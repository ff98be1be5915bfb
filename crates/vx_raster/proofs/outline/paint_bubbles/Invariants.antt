use Rattle.std.proofs.Common.{◌≡◌, take}
use Rattle.vx_plane.specs.Plane.{painted, any_of}
use Rattle.vx_layout.specs.Print.{bubble_pixels}
use Rattle.vx_raster.proofs.outline.paint_bubbles.Given as goal

-- the bubbles so far are painted
abbrev pub invariant-loop-bubble : goal.invariant-loop-bubble
invariant-loop-bubble l = l.page ≡ painted l.fn.page (any_of (take l.bubble-index l.bubbles) (bubble_pixels l.paper))
