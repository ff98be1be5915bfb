use Rattle.std.proofs.Common.{string_bytes}
use Rattle.vx_command_queue.proofs.Reasoned.{Told}
use Rattle.vx_command_queue.proofs.lines.push_reasons.Given as goal

-- the reasons so far are told
abbrev pub invariant-loop-reason : goal.invariant-loop-reason
invariant-loop-reason l = Told l.set l.reason-index l.first (string_bytes l.fn.text) (string_bytes l.text)
