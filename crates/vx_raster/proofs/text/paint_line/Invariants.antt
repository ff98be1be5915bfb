use Rattle.std.proofs.Common.{◌≡◌, ◌+◌, ◌*◌, length}
use Rattle.vx_plane.specs.Plane.{painted, in_any}
use Rattle.vx_layout.specs.Print.{character_pixels}
use Rattle.vx_raster.proofs.text.paint_line.Given as goal

-- the characters so far are painted, and the next one's cell begins at x
abbrev pub invariant-loop-c : goal.invariant-loop-c
invariant-loop-c l = record {
  at : l.x ≡ l.line.x + 12 * length l.yielded;
  so_far : l.page ≡ painted l.fn.page (in_any (length l.yielded) (character_pixels l.line));
}
