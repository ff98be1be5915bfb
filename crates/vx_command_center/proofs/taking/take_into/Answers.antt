use Rattle.std.proofs.Common.{◌≡◌, ℕ, ◌+◌, false, true, List, [], ◌∷◌, ◌++◌, drop, length, Some, Err, refl, sym, ap, subst, ◌∙◌, arith, length-append}
use Rattle.std.specs.Prelude.{All}
use Rattle.std.proofs.lemmas.List.Elements.{All-append, All-cons, All-nil}
use Rattle.std.proofs.lemmas.Result.{err_from_is_err_and}
use Rattle.vx_io.specs.Outside.{Files}
use Rattle.vx_command.specs.declared.halt.Halt.TheVariants.{NoMemory}
use Rattle.vx_command_center.specs.declared.item.Item.{Item}
use Rattle.vx_command_center.specs.Items.{FitsItem, possible_in_all, possible_of}
use Rattle.vx_command_center.proofs.Asking.{all_taken, more_taken, taking_stopped}
use Rattle.vx_command_center.proofs.Taken.{HasTaken, has_all, has_one, has_stopped, none_taken, possible_more}
use Rattle.vx_command_center.proofs.taking.take_into.Goals as goal

pub returns-in_err-taken-clause-told : goal.returns-in_err-taken-clause-told
returns-in_err-taken-clause-told g c files told =
    let err = err_from_is_err_and c.from_residual.result c.from_residual.ensures.1 in
    rw (err.1 ∙ ap Err err.2)
    (has_stopped c.args.election.now files c.args.words.now c.loop-item.item-index c.loop-item.word c.loop-item.before c.loop-item.items (c.loop-item.invariant.taken files told) c.steps_in_order.ensures c.item-item.result c.loop-item-test.true c.item-item.is
    c.in_err-taken.field-0.0 (c.in_err-taken.ensures.told files (c.loop-item.invariant.same ∙ told)))

pub returns-in_err-push-clause-told : goal.returns-in_err-push-clause-told
returns-in_err-push-clause-told g c files told =
    let err = err_from_is_err_and c.from_residual-in_err-push.result c.from_residual-in_err-push.ensures.1 in
    rw (err.1 ∙ ap Err err.2)
    (none_taken c.steps_in_order.ensures c.args.election.now files c.args.words.now c.requires.words.some NoMemory (refl, refl))

pub loop-item-preserved : goal.loop-item-preserved
loop-item-preserved g c =
    let election = c.args.election.now in
    let words = c.args.words.now in
    let i = c.loop-item.item-index in
    let word = c.loop-item.word in
    let before = c.loop-item.before in
    let items : List Item = c.loop-item.items in
    let taken : Item = c.in_ok-taken.taken in
    let pushed : c.push.new.self ≡ items ++ taken ∷ [] = c.in_ok-push.ensures in
    let possible : c.possible_in-before.result ≡ possible_of taken = c.possible_in-before.ensures in
    let Now : List Item → Type 0 = λ now. (files : Files) → g.I.Inputs.held c.args.inputs.now ≡ Some files → HasTaken election files words (word + 1) (before + c.possible_in-before.result) now (drop (i + 1) words) in
    let At : ℕ → Type 0 = λ more. (files : Files) → g.I.Inputs.held c.args.inputs.now ≡ Some files → HasTaken election files words (word + 1) (before + more) (items ++ taken ∷ []) (drop (i + 1) words) in
    record {
      taken =
          subst Now (sym pushed)
          (subst At (sym possible)
          (λ files told. has_one election files words i word before items (c.loop-item.invariant.taken files told) c.steps_in_order.ensures c.item-item.result c.loop-item-test.true c.item-item.is taken
          (c.in_ok-taken.ensures.told files (c.loop-item.invariant.same ∙ told))));
      word = omega (arith, c.loop-item.invariant.word);
      before =
          let all : possible_in_all c.push.new.self ≡ possible_in_all (items ++ taken ∷ []) = ap possible_in_all pushed in
          let more = possible_more items taken in
          omega (arith, all, more, possible, c.loop-item.invariant.before);
      within = omega (arith, possible, c.in_ok-taken.ensures.within);
      fits = subst (All (FitsItem election)) (sym pushed) (All-append (FitsItem election) items (taken ∷ []) c.loop-item.invariant.fits (All-cons (FitsItem election) taken [] c.in_ok-taken.ensures.fits (All-nil (FitsItem election))));
      as_many =
          let all : length c.push.new.self ≡ length (items ++ taken ∷ []) = ap (λ (l : List Item). length l) pushed in
          let both = length-append items (taken ∷ []) in
          omega (arith, all, both, c.loop-item.invariant.as_many);
      asked = more_taken g.I.Inputs c.asks_in_order.ensures words i c.item-item.result c.loop-item-test.true c.item-item.is _ _ _ c.loop-item.invariant.asked true c.in_ok-taken.ensures.asked;
      same = c.in_ok-taken.ensures.inputs.inputs.same ∙ c.loop-item.invariant.same;
      still = c.in_ok-taken.ensures.inputs.inputs.counts.still refl ∙ c.loop-item.invariant.still;
    }

pub returns-clause-told : goal.returns-clause-told
returns-clause-told g c files told =
    has_all c.args.election.now files c.args.words.now c.loop-item.item-index c.loop-item.word c.loop-item.before c.loop-item.items (c.loop-item.invariant.taken files told) c.loop-item-test.false

pub returns-in_err-taken-clause-asked : goal.returns-in_err-taken-clause-asked
returns-in_err-taken-clause-asked g c =
    let err = err_from_is_err_and c.from_residual.result c.from_residual.ensures.1 in
    rw (err.1 ∙ ap Err err.2)
    (taking_stopped g.I.Inputs c.asks_in_order.ensures c.args.words.now c.loop-item.item-index c.item-item.result c.loop-item-test.true c.item-item.is _ _ _ c.loop-item.invariant.asked false c.in_err-taken.ensures.asked)

pub returns-in_err-push-clause-asked : goal.returns-in_err-push-clause-asked
returns-in_err-push-clause-asked g c =
    let err = err_from_is_err_and c.from_residual-in_err-push.result c.from_residual-in_err-push.ensures.1 in
    rw (err.1 ∙ ap Err err.2)
    (taking_stopped g.I.Inputs c.asks_in_order.ensures c.args.words.now c.loop-item.item-index c.item-item.result c.loop-item-test.true c.item-item.is _ _ _ c.loop-item.invariant.asked true c.in_ok-taken.ensures.asked)

pub returns-clause-asked : goal.returns-clause-asked
returns-clause-asked g c =
    all_taken g.I.Inputs c.args.words.now c.loop-item.item-index _ _ c.loop-item-test.false c.loop-item.invariant.asked
