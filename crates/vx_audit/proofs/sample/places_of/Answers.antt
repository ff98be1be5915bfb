use Rattle.std.proofs.Common.{◌∙◌, ap, sym, List, ℕ, ◌++◌, ◌∷◌, [], take, get_or, false, append-nil}
use Rattle.std.proofs.lemmas.List.{get_or_default}
use Rattle.vx_audit.specs.Sample.{where_held}
use Rattle.vx_audit.specs.Walk.{by_place}
use Rattle.vx_audit.proofs.Walked.{by_place-more}
use Rattle.vx_audit.proofs.sample.places_of.Goals.{then-is+in_ok-push, else-is}
use Rattle.vx_audit.proofs.sample.places_of.Goals as goal

pub loop-place-preserved : goal.loop-place-preserved
loop-place-preserved c =
    let drawn = c.args.drawn.now in
    let i = c.loop-place.place in
    let more = by_place-more where_held drawn i (get_or drawn i false) c.loop-place-test.true (get_or_default drawn i false (get_or drawn i false) c.loop-place-test.true) in
    elim c.if-is.branch [
      | then-is+in_ok-push w ↦
          w.places-is ∙ w.in_ok-push.ensures ∙ ap (λ (places : List ℕ). places ++ i ∷ []) c.loop-place.invariant
          ∙ sym (more ∙ ap (λ held. by_place where_held 0 (take i drawn) ++ where_held i held) w.if-is.true)
      | else-is w ↦
          w.places-is ∙ c.loop-place.invariant
          ∙ sym (more ∙ ap (λ held. by_place where_held 0 (take i drawn) ++ where_held i held) w.if-is.false ∙ append-nil (by_place where_held 0 (take i drawn)))
    ]
