use Rattle.vx_command_check.proofs.NamedBubbles.{NamedTo}
use Rattle.vx_command_check.proofs.names.other_name.Given as goal

-- the names so far are those of the plan
abbrev pub invariant-loop-place : goal.invariant-loop-place
invariant-loop-place l = NamedTo l.first l.names l.bubbles l.place
