use Rattle.std.proofs.Common.{◌≡◌, ◌++◌, drop}
use Rattle.vx_rules.specs.Reasons.{is_marked}
use Rattle.vx_center.specs.Finals.{options_from, marked_options}
use Rattle.vx_center.proofs.exporting.marked.Given as goal

abbrev pub invariant-loop-state : goal.invariant-loop-state
invariant-loop-state l = record {
  counted : l.number ≡ l.state-index;
  same : l.options.items ++ options_from is_marked l.number (drop l.state-index l.states) ≡ marked_options l.states;
}
