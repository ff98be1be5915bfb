-- Shapes: lists of rectangles that are put at a place.
use Rattle.std.specs.Prelude.{ℕ, ◌+◌, pos}
use Rattle.vx_plane.specs.Plane.{Pixels, rectangle}
use Rattle.vx_raster.specs.declared.stamp.Patch.{Patch}

-- a rectangle of a shape whose left top corner is at a place
abbrev pub patch_pixels : ℕ → ℕ → Patch → Pixels
patch_pixels x y patch = rectangle (pos (x + patch.left)) (pos (y + patch.top)) patch.width patch.height
