use Rattle.std.proofs.Common.{◌≡◌, true, length, take}
use Rattle.vx_command_center.specs.Asking.{AsksSizes, names_of}
use Rattle.vx_command_center.proofs.rooms.lengths_for.Given as goal

-- the lengths so far are had without a fault
abbrev pub invariant-loop-item : goal.invariant-loop-item
invariant-loop-item g l = record {
  as_many : length l.lengths ≡ l.item-index;
  asked : AsksSizes g.I.Inputs (names_of (take l.item-index l.words)) l.fn.inputs l.inputs true;
  same : g.I.Inputs.held l.inputs ≡ g.I.Inputs.held l.fn.inputs;
  still : g.I.Inputs.faults l.inputs ≡ g.I.Inputs.faults l.fn.inputs;
}
