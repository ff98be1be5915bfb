use Rattle.std.proofs.Common.{◌≡◌, ◌++◌, ◌∷◌, [], true, false, ℕ, List, Err, length, refl, ap, ◌∙◌, arith, length-append}
use Rattle.std.proofs.lemmas.Result.{err_from_is_err_and}
use Rattle.vx_command_center.proofs.Asking.{all_sized, more_sized, sizes_stopped}
use Rattle.vx_command_center.proofs.rooms.lengths_for.Goals as goal

pub returns-in_err-length-clause-asked : goal.returns-in_err-length-clause-asked
returns-in_err-length-clause-asked g c =
    let err = err_from_is_err_and c.from_residual.result c.from_residual.ensures.1 in
    rw (err.1 ∙ ap Err err.2)
    (sizes_stopped g.I.Inputs c.questions_asked.ensures c.args.words.now c.loop-item.item-index c.item-item.result c.loop-item-test.true c.item-item.is _ _ _ c.loop-item.invariant.asked false c.in_err-length.ensures.asked)

pub returns-in_err-push-clause-asked : goal.returns-in_err-push-clause-asked
returns-in_err-push-clause-asked g c =
    let err = err_from_is_err_and c.from_residual-in_err-push.result c.from_residual-in_err-push.ensures.1 in
    rw (err.1 ∙ ap Err err.2)
    (sizes_stopped g.I.Inputs c.questions_asked.ensures c.args.words.now c.loop-item.item-index c.item-item.result c.loop-item-test.true c.item-item.is _ _ _ c.loop-item.invariant.asked true c.in_ok-length.ensures.asked)

pub loop-item-preserved : goal.loop-item-preserved
loop-item-preserved g c =
    record {
      as_many =
          let all : length c.push.new.self ≡ length (c.loop-item.lengths ++ c.in_ok-length.length ∷ []) = ap (λ (l : List ℕ). length l) c.in_ok-push.ensures in
          let both = length-append c.loop-item.lengths (c.in_ok-length.length ∷ []) in
          omega (arith, all, both, c.loop-item.invariant.as_many);
      asked = more_sized g.I.Inputs c.questions_asked.ensures c.args.words.now c.loop-item.item-index c.item-item.result c.loop-item-test.true c.item-item.is _ _ _ c.loop-item.invariant.asked true c.in_ok-length.ensures.asked;
      same = c.in_ok-length.ensures.inputs.inputs.same ∙ c.loop-item.invariant.same;
      still = c.in_ok-length.ensures.inputs.inputs.counts.still refl ∙ c.loop-item.invariant.still;
    }

pub returns-clause-asked : goal.returns-clause-asked
returns-clause-asked g c =
    all_sized g.I.Inputs c.args.words.now c.loop-item.item-index _ _ true c.loop-item-test.false c.loop-item.invariant.asked
