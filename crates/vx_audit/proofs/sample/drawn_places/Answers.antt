use Rattle.std.proofs.Common.{◌≡◌, ◌∙◌, ◌+◌, ap, sym, List, ℕ, ◌++◌, ◌∷◌, [], arith}
use Rattle.std.specs.Prelude.{◌%◌}
use Rattle.std.proofs.lemmas.List.FromFn.{map-range_with_len_more}
use Rattle.vx_audit.specs.Sample.{word_of}
use Rattle.vx_audit.proofs.sample.drawn_places.Goals as goal

pub loop-index-preserved : goal.loop-index-preserved
loop-index-preserved c =
    let i = c.loop-index.index in
    let at : 0 + i ≡ i = omega arith in
    let place : ℕ → ℕ = λ word. word_of c.args.seed word % c.args.count in
    record {
      words = c.draw-word.ensures.next;
      drawn =
          c.in_ok-push.ensures
          ∙ ap (λ (word : ℕ). c.loop-index.places ++ (word % c.args.count) ∷ []) c.draw-word.ensures.word
          ∙ ap (λ (places : List ℕ). places ++ place i ∷ []) c.loop-index.invariant.drawn
          ∙ sym (map-range_with_len_more place 0 i i at);
    }
