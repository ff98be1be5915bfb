use Rattle.std.proofs.Common.{◌≡◌, ◌++◌, drop, map}
use Rattle.vx_words.proofs.arguments.texts_from.Given as goal

abbrev pub invariant-loop-index : goal.invariant-loop-index
invariant-loop-index l = (l.texts ++ drop l.index (map (λ word. word.now) l.words) ≡ drop l.from (map (λ word. word.now) l.words))
