use Rattle.std.proofs.Common.{◌≡◌, ◌-◌, pos}
use Rattle.vx_plane.specs.Plane.{rectangle, painted}
use Rattle.vx_bits.proofs.page.BitPage.darken_rows.Given as goal

abbrev pub invariant-loop-y : goal.invariant-loop-y
invariant-loop-y l = l.self ≡ painted l.fn.self (rectangle (pos l.left) (pos l.top) (l.right - l.left) (l.y - l.top))
