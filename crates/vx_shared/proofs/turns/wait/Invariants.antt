use Rattle.std.proofs.Common.{◌≡◌}
use Rattle.vx_shared.proofs.turns.wait.Given as goal

-- a look at another's turn changes nothing
abbrev pub invariant-loop : goal.invariant-loop
invariant-loop g l = (l.seat.table_id ≡ l.initial.seat.table_id) × (l.seat.me ≡ l.initial.seat.me)
