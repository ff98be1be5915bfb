use Rattle.std.proofs.Common.{length}
use Rattle.vx_readings.proofs.ReadBubbles.{BubblesTo}
use Rattle.vx_readings.proofs.bubbles.read_bubbles.Given as goal

-- the bubbles so far are read, and the others are left
abbrev pub invariant-bubbles : goal.invariant-bubbles
invariant-bubbles l = BubblesTo l.fn.left l.said l.rest

abbrev pub decreases-bubbles : goal.decreases-bubbles
decreases-bubbles l = length l.rest.lines
