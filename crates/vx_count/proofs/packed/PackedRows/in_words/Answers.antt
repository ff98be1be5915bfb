use Rattle.std.proofs.Common.{◌+◌, ◌*◌, arith, sym}
use Rattle.vx_plane.specs.Plane.{dark_at}
use Rattle.vx_plane.proofs.Counts.{count_in-no_columns}
use Rattle.vx_count.proofs.Steps.{more_columns, row_fits}
use Rattle.vx_count.proofs.packed.PackedRows.in_words.Goals as goal

pub loop-k-init : goal.loop-k-init
loop-k-init c = sym (count_in-no_columns _ _ 1 _)

pub overflow_add-dark : goal.overflow_add-dark
overflow_add-dark c =
    omega (arith, row_fits c.args.left c.args.row (64 * c.loop-k.k) c.loop-k.dark (dark_at c.args.self.now) c.loop-k.invariant, row_fits _ c.args.row 64 c.in_word-dark.result (dark_at c.args.self.now) c.in_word-dark.ensures)

pub loop-k-preserved : goal.loop-k-preserved
loop-k-preserved c =
    more_columns c.args.left _ c.args.row (64 * c.loop-k.k) 64 (64 * (c.loop-k.k + 1)) c.loop-k.dark c.in_word-dark.result (dark_at c.args.self.now) c.loop-k.invariant c.in_word-dark.ensures (omega arith) (omega arith)
