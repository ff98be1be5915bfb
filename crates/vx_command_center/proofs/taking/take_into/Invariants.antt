use Rattle.std.proofs.Common.{◌≡◌, ◌+◌, ◌≤◌, true, drop, length, take, Some}
use Rattle.std.specs.Prelude.{All}
use Rattle.vx_io.specs.Outside.{Files}
use Rattle.vx_command.specs.Asking.{Asks}
use Rattle.vx_command_center.specs.Asking.{names_of}
use Rattle.vx_command_center.specs.Items.{FitsItem, possible_in_all}
use Rattle.vx_command_center.proofs.Taken.{HasTaken}
use Rattle.vx_command_center.proofs.taking.take_into.Given as goal

-- the items so far are taken, without a fault
abbrev pub invariant-loop-item : goal.invariant-loop-item
invariant-loop-item g l = record {
  taken : (files : Files) → g.I.Inputs.held l.fn.inputs ≡ Some files → HasTaken l.election files l.words l.word l.before l.items (drop l.item-index l.words);
  word : l.word ≡ 4 + l.item-index;
  before : l.before ≡ possible_in_all l.items;
  within : l.before ≤ 1000000;
  fits : All (FitsItem l.election) l.items;
  as_many : length l.items ≡ l.item-index;
  asked : Asks g.I.Inputs (names_of (take l.item-index l.words)) l.fn.inputs l.inputs true;
  same : g.I.Inputs.held l.inputs ≡ g.I.Inputs.held l.fn.inputs;
  still : g.I.Inputs.faults l.inputs ≡ g.I.Inputs.faults l.fn.inputs;
}
