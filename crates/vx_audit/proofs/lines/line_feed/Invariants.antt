use Rattle.std.proofs.Common.{◌≡◌, ◌==◌, drop}
use Rattle.std.specs.List.{position_from}
use Rattle.vx_audit.proofs.lines.line_feed.Given as goal

abbrev pub invariant-loop-at : goal.invariant-loop-at
invariant-loop-at l = position_from (λ b. b == 10) l.at (drop l.at l.text) ≡ position_from (λ b. b == 10) 0 l.text
