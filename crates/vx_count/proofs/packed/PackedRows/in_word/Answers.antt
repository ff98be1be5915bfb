use Rattle.vx_count.proofs.Runs.{run-count}
use Rattle.vx_count.proofs.packed.PackedRows.in_word.Goals as goal

pub returns : goal.returns
returns c =
    run-count c.self.inside.width c.self.inside.height c.self.inside.stride c.args.left c.args.row c.args.width _ c.self.inside.bytes.items c.args.self.now
    c.self.view_is c.self.invariant.across (rw c.as_slice.ensures.value at c.word_at-word.ensures) c.requires.one_word c.requires.columns c.requires.row
