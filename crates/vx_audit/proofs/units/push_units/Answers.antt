use Rattle.std.proofs.Common.{◌≡◌, ◌++◌, ◌∙◌, List, ℕ, ap}
use Rattle.std.specs.Prelude.{string_bytes}
use Rattle.std.specs.List.{flat_map}
use Rattle.vx_tally.specs.Running.{summed_in}
use Rattle.vx_audit.specs.Cells.{cell_line}
use Rattle.vx_audit.proofs.Gathered.{all-units}
use Rattle.vx_audit.proofs.units.push_units.Goals as goal

pub returns : goal.returns
returns c =
    let sums = summed_in c.args.totals.now in
    let cells = c.in_ok-cells.cells.items in
    let those = c.as_slice.ensures.value in
    let pushed = c.in_ok-push_cells.ensures in
    let laid : string_bytes c.push_cells.new.text
    ≡ string_bytes c.args.text.now ++ flat_map (cell_line sums c.args.contests.now c.args.units.now) cells =
    cc in
    laid
    ∙ ap (λ (more : List ℕ). string_bytes c.args.text.now ++ more)
    (all-units sums c.args.contests.now c.args.units.now cells c.in_ok-cells.ensures)
