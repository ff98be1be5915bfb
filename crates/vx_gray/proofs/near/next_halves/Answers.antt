use Rattle.std.proofs.Common.{◌+◌, ◌-◌, ◌*◌, sym, subst, arith}
use Rattle.vx_gray.specs.Gray.{near_start, near_size}
use Rattle.vx_gray.specs.Near.{AreColumnTops}
use Rattle.vx_gray.proofs.Tops.{tops_joined}
use Rattle.vx_gray.proofs.near.next_halves.Goals as goal

pub halves_of-requires-clause-tops : goal.halves_of-requires-clause-tops
halves_of-requires-clause-tops c =
    let first = near_start c.args.down in
    let rows = 64 * c.args.down - first in
    subst (AreColumnTops c.args.gray.now first (near_size c.args.down)) (sym c.deref-3.ensures.value)
    (tops_joined c.args.gray.now first (rows + 64) (64 * (c.args.down + 1)) 64 (near_size c.args.down) c.args.tops.now.above.len
    _ c.deref_mut-2.result.now c.in_ok-below.below.items c.deref-2.result.now c.raise-2.new.tops (omega arith) (omega arith)
    (tops_joined c.args.gray.now first rows (64 * c.args.down) 64 (rows + 64) c.args.tops.now.above.len
    c.args.tops.now.above.items c.deref_mut.result.now c.args.tops.now.here.items c.deref.result.now c.raise.new.tops (omega arith) (omega arith)
    c.requires.tops.above c.deref_mut.ensures.value c.requires.tops.here c.deref.ensures.value c.raise.auto.tops (omega (arith, c.deref_mut.ensures.len)) c.raise.ensures)
    c.deref_mut-2.ensures.value c.in_ok-below.ensures c.deref-2.ensures.value c.raise-2.auto.tops (omega (arith, c.deref_mut-2.ensures.len)) c.raise-2.ensures)
