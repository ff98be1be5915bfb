use Rattle.std.proofs.Common.{◌≡◌, ◌-◌, ◌%◌, pos, ap, ◌∙◌, arith}
use Rattle.vx_plane.specs.Plane.{dark_at}
use Rattle.vx_plane.specs.Count.{count_in}
use Rattle.vx_count.proofs.Steps.{block_and_words, and_rest, row_fits}
use Rattle.vx_count.proofs.row_sums.RowSums.before.Goals as goal

pub overflow_add-dark : goal.overflow_add-dark
overflow_add-dark c =
    omega (arith, row_fits 0 c.args.row _ _ _ c.before_block.ensures, row_fits _ c.args.row _ _ _ c.in_words.ensures)

pub overflow_add-result : goal.overflow_add-result
overflow_add-result c =
    omega (arith, row_fits 0 c.args.row _ _ _ c.before_block.ensures, row_fits _ c.args.row _ _ _ c.in_words.ensures, row_fits _ c.args.row _ _ _ c.in_word.ensures)

pub returns-then-x-eq0 : goal.returns-then-x-eq0
returns-then-x-eq0 c =
    let whole : c.args.x - c.args.x % 64 ≡ c.args.x = omega arith in
    block_and_words c.args.row c.args.x _ _ c.self.inside.rows c.args.self.now c.self.view_is c.before_block.ensures c.in_words.ensures
    ∙ ap (λ n. count_in (pos 0) (pos c.args.row) n 1 (dark_at c.args.self.now)) whole

pub returns-else-x-eq0 : goal.returns-else-x-eq0
returns-else-x-eq0 c =
    and_rest c.args.row c.args.x _ _ c.self.inside.rows c.args.self.now c.self.view_is
    (block_and_words c.args.row c.args.x _ _ c.self.inside.rows c.args.self.now c.self.view_is c.before_block.ensures c.in_words.ensures) c.in_word.ensures
