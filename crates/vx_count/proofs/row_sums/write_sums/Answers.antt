use Rattle.std.proofs.Common.{◌≡◌, ◌+◌, ◌*◌, ◌/◌, ◌∙◌, pos, ap, arith, refl, sym}
use Rattle.vx_plane.specs.Plane.{dark_at}
use Rattle.vx_plane.specs.Count.{count_in}
use Rattle.vx_plane.proofs.Counts.{count_in-no_columns}
use Rattle.vx_count.specs.Sums.{blocks_of}
use Rattle.vx_count.proofs.Steps.{more_columns, row_fits}
use Rattle.vx_count.proofs.Summing.{sums-at, sums-inside, sums-more}
use Rattle.vx_count.proofs.row_sums.write_sums.Goals as goal

pub loop-k-init : goal.loop-k-init
loop-k-init c = record {
  counted = sym (count_in-no_columns _ _ 1 _);
  so_far = sums-at c.args.rows.now _ _ c.args.sums.now c.requires.above (omega arith);
}

pub overflow_add-dark : goal.overflow_add-dark
overflow_add-dark c =
    omega (arith, row_fits 0 c.args.row _ c.loop-k.dark (dark_at c.args.rows.now) c.loop-k.invariant.counted, row_fits _ c.args.row _ c.in_words-dark.result (dark_at c.args.rows.now) c.in_words-dark.ensures)

pub overflow_cast-sums : goal.overflow_cast-sums
overflow_cast-sums c =
    omega (arith, row_fits 0 c.args.row _ c.loop-k.dark (dark_at c.args.rows.now) c.loop-k.invariant.counted, row_fits _ c.args.row _ c.in_words-dark.result (dark_at c.args.rows.now) c.in_words-dark.ensures)

pub loop-k-preserved : goal.loop-k-preserved
loop-k-preserved c =
    let counted : c.loop-k.dark + c.in_words-dark.result ≡ count_in (pos 0) (pos c.args.row) (1024 * (c.loop-k.k + 1)) 1 (dark_at c.args.rows.now) =
    more_columns 0 _ c.args.row (1024 * c.loop-k.k) 1024 (1024 * (c.loop-k.k + 1)) c.loop-k.dark c.in_words-dark.result (dark_at c.args.rows.now) c.loop-k.invariant.counted c.in_words-dark.ensures (omega arith) (omega arith) in
    let here : c.args.row * (c.width-blocks.result / 1024) + c.loop-k.k ≡ c.args.row * blocks_of c.args.rows.now + c.loop-k.k = ap (λ w. c.args.row * (w / 1024) + c.loop-k.k) c.width-blocks.ensures.value in
    record {
      counted = counted;
      so_far =
          sums-more c.args.rows.now c.args.row c.loop-k.k _ _ _ c.loop-k.sums
          (sums-at c.args.rows.now _ _ c.loop-k.sums c.loop-k.invariant.so_far (sym here)) here refl
          (sums-inside c.args.rows.now c.args.row c.loop-k.k _ c.loop-k.sums here c.requires.row (omega arith) (c.loop-k.auto.sums ∙ c.requires.size)) (omega arith) counted;
    }
