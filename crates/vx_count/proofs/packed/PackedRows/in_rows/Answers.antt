use Rattle.std.proofs.Common.{◌+◌, arith, sym}
use Rattle.vx_plane.specs.Plane.{dark_at}
use Rattle.vx_plane.proofs.Counts.{count_in-no_rows}
use Rattle.vx_count.proofs.Steps.{more_rows, row_fits, rows_fit}
use Rattle.vx_count.proofs.packed.PackedRows.in_rows.Goals as goal

pub loop-j-init : goal.loop-j-init
loop-j-init c = sym (count_in-no_rows _ _ _ _)

pub overflow_add-dark : goal.overflow_add-dark
overflow_add-dark c =
    omega (arith, rows_fit c.args.left c.args.top c.args.width c.loop-j.j c.loop-j.dark (dark_at c.args.self.now) c.loop-j.invariant (omega arith) (omega arith), row_fits c.args.left (c.args.top + c.loop-j.j) c.args.width c.in_word-dark.result (dark_at c.args.self.now) c.in_word-dark.ensures)

pub loop-j-preserved : goal.loop-j-preserved
loop-j-preserved c =
    more_rows c.args.left c.args.top c.args.width c.loop-j.j c.loop-j.dark c.in_word-dark.result (dark_at c.args.self.now) c.loop-j.invariant c.in_word-dark.ensures
