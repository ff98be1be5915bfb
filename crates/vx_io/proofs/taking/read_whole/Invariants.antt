use Rattle.std.proofs.Common.{length, ◌≡◌, ◌-◌, ◌≤◌, take}
use Rattle.vx_io.specs.Asking.{AsksPieces}
use Rattle.vx_io.specs.Outside.{ReadsFrom}
use Rattle.vx_io.proofs.taking.read_whole.Given as goal

abbrev pub invariant-loop-at : goal.invariant-loop-at
invariant-loop-at g l =
    record {
      within : l.at ≤ length l.buffer;
      read : ReadsFrom (g.I.Inputs.held l.fn.inputs) l.name 0 (take l.at l.buffer);
      held : g.I.Inputs.held l.inputs ≡ g.I.Inputs.held l.fn.inputs;
      asked : AsksPieces l.name l.at (g.I.Inputs.asked l.fn.inputs) (g.I.Inputs.asked l.inputs);
      still : g.I.Inputs.faults l.inputs ≡ g.I.Inputs.faults l.fn.inputs;
    }

abbrev pub decreases-loop-at : goal.decreases-loop-at
decreases-loop-at g l = length l.initial.buffer - l.at
