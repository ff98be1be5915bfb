use Rattle.std.proofs.Common.{◌≡◌, ◌++◌, take}
use Rattle.std.specs.Prelude.{string_bytes}
use Rattle.vx_tally.specs.Running.{summed_in}
use Rattle.vx_audit.specs.Totals.{selection_total}
use Rattle.vx_audit.specs.Walk.{by_place}
use Rattle.vx_audit.proofs.totals.push_selections.Given as goal

abbrev pub invariant-loop-selection : goal.invariant-loop-selection
invariant-loop-selection l =
    string_bytes l.text ≡ string_bytes l.initial.text ++ by_place (selection_total (summed_in l.totals) l.place l.contest) 0 (take l.selection l.selections)
