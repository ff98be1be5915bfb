use Rattle.std.proofs.Common.{◌≡◌, Some, rules}
use Rattle.std.specs.Prelude.{slice_get}
use Rattle.vx_tally.proofs.Voted.{cells-next}
use Rattle.vx_tally.proofs.cells.push_cells.Goals as goal

pub loop-place-preserved : goal.loop-place-preserved
loop-place-preserved c =
    let there : slice_get c.args.sums.now.entries c.loop-place.place ≡ Some (c.unwrap.result.0.now, c.unwrap.result.1.now) = search rules in
    cells-next c.args.sums.now.entries c.loop-place.place _ there c.args.cells.now.items c.loop-place.cells.items c.push_cell.new.cells.items
    c.loop-place.invariant c.in_ok-push_cell.ensures
