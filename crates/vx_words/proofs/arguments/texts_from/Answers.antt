use Rattle.std.proofs.Common.{[], ◌∷◌, ◌++◌, List, ℕ, drop, map, ap, ◌∙◌, arith}
use Rattle.vx_words.proofs.Moving.{one_moved, got}
use Rattle.vx_words.proofs.arguments.texts_from.Goals as goal

pub loop-index-preserved : goal.loop-index-preserved
loop-index-preserved c =
    let words : List (List ℕ) = map (λ word. word.now) c.args.words.now in
    let pushed = c.in_ok-push.ensures ∙ ap (λ (text : List ℕ). c.loop-index.texts ++ text ∷ []) c.in_ok-from_str.ensures in
    rw pushed (one_moved c.loop-index.texts words (drop c.args.from words) c.loop-index.index _ (got c.args.words.now c.loop-index.index _ (omega (arith, c.loop-index-test.true))) c.loop-index.invariant)
