use Rattle.std.proofs.Common.{◌≡◌, ◌++◌, take}
use Rattle.std.specs.Prelude.{string_bytes}
use Rattle.vx_audit.specs.Walk.{by_place}
use Rattle.vx_results.specs.Counted.{pile_of}
use Rattle.vx_results.specs.Summary.{selection_votes}
use Rattle.vx_results.proofs.group_lines.push_votes.Given as goal

abbrev pub invariant-loop-selection : goal.invariant-loop-selection
invariant-loop-selection l =
    string_bytes l.text
    ≡ string_bytes l.initial.text
    ++ by_place (selection_votes l.fn.units (pile_of l.piles) l.place l.contest l.group) 0 (take l.selection l.selections)
