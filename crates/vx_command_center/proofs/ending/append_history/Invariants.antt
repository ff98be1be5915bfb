use Rattle.std.proofs.Common.{◌≡◌, drop}
use Rattle.vx_command.specs.Acts.{work}
use Rattle.vx_command.specs.Done.{Taken, ComesTo}
use Rattle.vx_shared.specs.Legal.{done_events}
use Rattle.vx_command_center.specs.Outcome.{append_acts}
use Rattle.vx_command_center.proofs.ending.append_history.Given as goal

-- the records of the calls so far are appended, without a fault
abbrev pub invariant-loop-call : goal.invariant-loop-call
invariant-loop-call g l = record {
  comes : (taken : Taken) → ComesTo (work (append_acts (done_events l.history))) (work (append_acts (done_events (drop l.call-index l.history)))) taken taken (g.K.Keeper.held l.fn.keeper) (g.K.Keeper.held l.keeper);
  still : g.K.Keeper.faults l.keeper ≡ g.K.Keeper.faults l.fn.keeper;
}
