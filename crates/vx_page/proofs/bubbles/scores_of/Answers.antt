use Rattle.std.proofs.Common.{◌<◌, ℕ, List, [], ◌∷◌, ◌++◌, length, ap₂, ◌∙◌, sym, arith}
use Rattle.std.proofs.lemmas.List.{map_more}
use Rattle.vx_layout.specs.declared.bubbles.Bubble.{Bubble}
use Rattle.vx_scan_model.specs.Reading.{bubble_score}
use Rattle.vx_page.proofs.bubbles.scores_of.Goals as goal

pub loop-bubble-preserved : goal.loop-bubble-preserved
loop-bubble-preserved c =
    let page = c.args.counter.now in
    let bubbles = c.args.bubbles.now in
    let i = c.loop-bubble.bubble-index in
    let none : Bubble = record { contest = 0; option = 0; col = 0; row = 0 } in
    let there : i < length bubbles = omega arith in
    c.in_ok-push.ensures.items
    ∙ ap₂ (λ (scores : List ℕ) (score : ℕ). scores ++ score ∷ []) c.loop-bubble.invariant c.bubble_score.ensures
    ∙ sym (map_more (bubble_score page c.args.border.now) bubbles i none there)
