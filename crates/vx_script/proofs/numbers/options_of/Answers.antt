use Rattle.std.proofs.Common.{◌≡◌, ◌++◌, ◌∷◌, [], ℕ, true, false, List, Vec, Global, sym, ap, subst, ◌∙◌, arith, append-nil}
use Rattle.vx_events.specs.Ascending.{is_ascending}
use Rattle.vx_script.specs.Options.{among_below}
use Rattle.vx_script.proofs.Numbered.{options_ascend, one_option_more, limit_is}
use Rattle.vx_script.proofs.numbers.options_of.Goals as goal
use Rattle.vx_script.proofs.numbers.options_of.Goals.{then-is_among+in_ok-push, else-is_among}

pub from_ascending-requires : goal.from_ascending-requires
from_ascending-requires c =
    let Ascends : List ℕ → Type 0 = λ some. is_ascending some ≡ true in
    subst Ascends (sym c.loop-option.invariant) (options_ascend c.loop-option.option c.args.numbers.now)

pub returns : goal.returns
returns c =
    let all : c.loop-option.option ≡ 1000 = omega arith in
    c.from_ascending.ensures ∙ c.loop-option.invariant ∙ ap (λ (limit : ℕ). among_below limit c.args.numbers.now) (all ∙ limit_is)

pub loop-option-preserved : goal.loop-option-preserved
loop-option-preserved c =
    elim c.if-is_among.branch [
      | then-is_among+in_ok-push w ↦
          ap (λ (list : Vec ℕ Global). list.items) w.list-is ∙ w.in_ok-push.ensures.items ∙ ap (λ (some : List ℕ). some ++ c.loop-option.option ∷ []) c.loop-option.invariant
          ∙ sym (one_option_more c.loop-option.option c.args.numbers.now true (sym c.is_among.ensures ∙ w.if-is_among.true))
      | else-is_among w ↦
          ap (λ (list : Vec ℕ Global). list.items) w.list-is ∙ c.loop-option.invariant ∙ sym (append-nil (among_below c.loop-option.option c.args.numbers.now))
          ∙ sym (one_option_more c.loop-option.option c.args.numbers.now false (sym c.is_among.ensures ∙ w.if-is_among.false))
    ]
