use Rattle.std.proofs.Common.{◌≡◌, ◌+◌, length}
use Rattle.vx_command_center.specs.Items.{possible_in_all}
use Rattle.vx_command_center.proofs.working.possible_events.Given as goal

abbrev pub invariant-loop-item : goal.invariant-loop-item
invariant-loop-item l = l.count + possible_in_all l.rest ≡ possible_in_all l.items

abbrev pub decreases-loop-item : goal.decreases-loop-item
decreases-loop-item l = length l.rest
