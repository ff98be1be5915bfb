use Rattle.std.proofs.Common.{◌≡◌, ◌*◌, pos, ap, sym, ◌∙◌, arith}
use Rattle.vx_plane.specs.Plane.{dark_at}
use Rattle.vx_plane.specs.Count.{count_in}
use Rattle.vx_plane.proofs.Counts.{count_in-no_columns}
use Rattle.vx_count.proofs.Summing.{sum-found}
use Rattle.vx_count.proofs.row_sums.RowSums.before_block.Goals as goal

pub returns-then-block-eq0 : goal.returns-then-block-eq0
returns-then-block-eq0 c =
    let none : 1024 * c.args.block ≡ 0 = omega arith in
    sym (ap (λ n. count_in (pos 0) (pos c.args.row) n 1 (dark_at c.args.self.now)) none ∙ count_in-no_columns (pos 0) (pos c.args.row) 1 (dark_at c.args.self.now))

pub returns : goal.returns
returns c =
    sum-found c.self.inside.rows c.args.self.now c.args.row c.args.block c.width.result c.into.result c.index.result.now c.self.inside.sums.items
    c.self.view_is c.self.invariant c.width.ensures.value c.requires.row (omega arith) c.requires.block c.index.ensures c.into.ensures
