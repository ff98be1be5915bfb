use Rattle.std.proofs.Common.{◌≡◌, drop}
use Rattle.vx_command.specs.Acts.{work}
use Rattle.vx_command.specs.Done.{WritesTo}
use Rattle.vx_command_center.specs.Outcome.{history_acts}
use Rattle.vx_command_center.proofs.ending.write_history.Given as goal

-- the lines of the calls so far are written, without a fault
abbrev pub invariant-loop-call : goal.invariant-loop-call
invariant-loop-call g l = record {
  comes : WritesTo (work (history_acts 0 l.history)) (work (history_acts l.place (drop l.call-index l.history))) (g.S.Sink.taken l.fn.out) (g.S.Sink.taken l.out);
  place : l.place ≡ l.call-index;
  still : g.S.Sink.faults l.out ≡ g.S.Sink.faults l.fn.out;
}
