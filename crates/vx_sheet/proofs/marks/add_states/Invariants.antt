use Rattle.std.proofs.Common.{◌≡◌, ◌++◌, drop}
use Rattle.vx_sheet.specs.Sheet.{states_on}
use Rattle.vx_sheet.proofs.marks.add_states.Given as goal

abbrev pub invariant-loop-place : goal.invariant-loop-place
invariant-loop-place l = l.list.items ++ states_on l.contest (drop l.place l.bubbles) (drop l.place l.states) ≡ l.initial.list.items ++ states_on l.contest l.bubbles l.states
