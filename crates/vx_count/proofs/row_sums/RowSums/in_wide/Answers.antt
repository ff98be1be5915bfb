use Rattle.std.proofs.Common.{◌≡◌, ◌+◌, ◌-◌, pos, arith, sym}
use Rattle.vx_plane.specs.Plane.{dark_at}
use Rattle.vx_plane.specs.Count.{count_in}
use Rattle.vx_plane.proofs.Counts.{count_in-no_rows}
use Rattle.vx_count.proofs.Steps.{between, more_rows, row_fits, rows_fit}
use Rattle.vx_count.proofs.row_sums.RowSums.in_wide.Goals as goal

pub loop-j-init : goal.loop-j-init
loop-j-init c = sym (count_in-no_rows _ _ _ _)

pub overflow_sub-dark : goal.overflow_sub-dark
overflow_sub-dark c =
    omega (arith, between c.args.left c.args.width (c.args.top + c.loop-j.j) _ _ (dark_at c.args.self.now) c.before-in-loop-j.ensures c.before-in-loop-j-2.ensures)

pub overflow_add-dark : goal.overflow_add-dark
overflow_add-dark c =
    omega (arith, rows_fit c.args.left c.args.top c.args.width c.loop-j.j c.loop-j.dark (dark_at c.args.self.now) c.loop-j.invariant (omega arith) (omega arith), row_fits 0 (c.args.top + c.loop-j.j) _ _ (dark_at c.args.self.now) c.before-in-loop-j.ensures)

pub loop-j-preserved : goal.loop-j-preserved
loop-j-preserved c =
    let row : c.before-in-loop-j.result - c.before-in-loop-j-2.result ≡ count_in (pos c.args.left) (pos (c.args.top + c.loop-j.j)) c.args.width 1 (dark_at c.args.self.now) =
    omega (arith, between c.args.left c.args.width (c.args.top + c.loop-j.j) _ _ (dark_at c.args.self.now) c.before-in-loop-j.ensures c.before-in-loop-j-2.ensures) in
    more_rows c.args.left c.args.top c.args.width c.loop-j.j c.loop-j.dark _ (dark_at c.args.self.now) c.loop-j.invariant row
