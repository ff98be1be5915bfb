use Rattle.std.proofs.Common.{◌≡◌, ◌++◌, take}
use Rattle.std.specs.Prelude.{string_bytes}
use Rattle.std.specs.List.{flat_map}
use Rattle.vx_tally.specs.Running.{summed_in}
use Rattle.vx_audit.specs.Cells.{cell_line}
use Rattle.vx_audit.proofs.units.push_cells.Given as goal

abbrev pub invariant-loop-cell : goal.invariant-loop-cell
invariant-loop-cell l =
    string_bytes l.text ≡ string_bytes l.initial.text ++ flat_map (cell_line (summed_in l.totals) l.contests l.units) (take l.cell-index l.cells)
