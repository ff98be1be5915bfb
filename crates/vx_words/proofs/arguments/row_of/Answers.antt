use Rattle.std.proofs.Common.{◌≡◌, [], ◌∷◌, ◌++◌, List, ℕ, map, ap, ◌∙◌}
use Rattle.vx_words.proofs.Moving.{one_moved, map_more}
use Rattle.vx_words.proofs.arguments.row_of.Goals as goal

pub loop-index-preserved : goal.loop-index-preserved
loop-index-preserved c =
    let words : List (List ℕ) = c.args.words.now in
    let pushed : map (λ word. word.now) c.push.new.self.items ≡ map (λ word. word.now) c.loop-index.row.items ++ c.word.result.now ∷ [] =
    ap (map (λ word. word.now)) c.in_ok-push.ensures.items ∙ map_more c.loop-index.row.items c.word.result in
    rw pushed (one_moved (map (λ word. word.now) c.loop-index.row.items) words words c.loop-index.index c.word.result.now c.word.ensures c.loop-index.invariant)
