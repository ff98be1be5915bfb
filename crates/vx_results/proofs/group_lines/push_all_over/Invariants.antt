use Rattle.std.proofs.Common.{◌≡◌, ◌++◌, take}
use Rattle.std.specs.Prelude.{string_bytes}
use Rattle.std.specs.List.{flat_map}
use Rattle.vx_results.specs.Counted.{pile_of}
use Rattle.vx_results.specs.Summary.{group_over}
use Rattle.vx_results.proofs.group_lines.push_all_over.Given as goal

abbrev pub invariant-loop-group : goal.invariant-loop-group
invariant-loop-group l =
    string_bytes l.text
    ≡ string_bytes l.initial.text ++ flat_map (group_over l.units (pile_of l.piles) l.place l.contest) (take l.group-index l.groups)
