use Rattle.std.proofs.Common.{length}
use Rattle.vx_command_demo.proofs.judging.+are_read_so.Given as goal

-- the states that are left
abbrev pub decreases-are_read_so : goal.decreases-are_read_so
decreases-are_read_so l = length l.states.now
