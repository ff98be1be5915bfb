use Rattle.std.proofs.Common.{length, ◌≡◌, ◌-◌, ◌≤◌, take}
use Rattle.vx_io.specs.Outside.{Took}
use Rattle.vx_io.proofs.giving.give.Given as goal

abbrev pub invariant-loop-at : goal.invariant-loop-at
invariant-loop-at g l =
    record {
      within : l.at ≤ length l.text;
      took : Took (g.S.Sink.taken l.fn.out) (g.S.Sink.taken l.out) (take l.at l.text);
      still : g.S.Sink.faults l.out ≡ g.S.Sink.faults l.fn.out;
    }

abbrev pub decreases-loop-at : goal.decreases-loop-at
decreases-loop-at g l = length l.text - l.at
