use Rattle.std.proofs.Common.{◌≡◌}
use Rattle.vx_plane.specs.Plane.{painted, in_any}
use Rattle.vx_simulate.specs.Ink.{inked_bubble}
use Rattle.vx_simulate.proofs.painting.paint_inks.Given as goal

-- the bubbles so far have their ink
abbrev pub invariant-loop-n : goal.invariant-loop-n
invariant-loop-n l = l.page ≡ painted l.fn.page (in_any l.n (inked_bubble l.plan l.inks))
