use Rattle.std.proofs.Common.{◌≡◌, ℕ, List, ◌-◌, ◌+◌, ◌∙◌, arith, sym, ap}
use Rattle.std.proofs.lemmas.Result.{err_from_is_err_and}
use Rattle.vx_records.specs.Parts.{behind, each_in}
use Rattle.vx_records.specs.Reading.{next_option, option_in}
use Rattle.vx_records.proofs.Loops.{each_goes, each_stops, each_none, each_left, empty, nonempty, end_of, stops_on}
use Rattle.vx_records.proofs.options.further_options.Goals as goal

pub returns-then-is_empty : goal.returns-then-is_empty
returns-then-is_empty c =
    c.loop-left.invariant
    ∙ each_none option_in next_option c.loop-left.options.items (1000 - c.loop-left._left) c.loop-left.next c.loop-left.rest.now
    (empty c.loop-left.rest.now (sym c.is_empty.ensures ∙ c.if-is_empty.true))

pub returns-in_err-option : goal.returns-in_err-option
returns-in_err-option c =
    let err = err_from_is_err_and c.from_residual.result c.from_residual.ensures.1 in
    let some = nonempty c.loop-left.rest.now (sym c.is_empty.ensures ∙ c.if-is_empty.false) in
    rw err.1 (rw err.2 (stops_on c.in_err-option.field-0.0 _ _ c.in_err-option.ensures.exact
    (λ left e. c.loop-left.invariant
    ∙ each_stops option_in next_option c.loop-left.options.items (1000 - (c.loop-left._left + 1)) (1000 - c.loop-left._left) c.loop-left.next c.loop-left.rest.now left (omega arith) some e)))

pub loop-left-preserved : goal.loop-left-preserved
loop-left-preserved c =
    let some = nonempty c.loop-left.rest.now (sym c.is_empty.ensures ∙ c.if-is_empty.false) in
    c.loop-left.invariant
    ∙ each_goes option_in next_option c.loop-left.options.items (1000 - (c.loop-left._left + 1)) (1000 - c.loop-left._left) c.loop-left.next c.loop-left.rest.now
    c.in_ok-option.further.now c.in_ok-option.option (omega arith) some c.in_ok-option.ensures.exact
    ∙ ap (λ (xs : List ℕ). behind xs (each_in option_in next_option (1000 - (c.loop-left._left + 1)) (c.in_ok-option.option + 1) c.in_ok-option.further.now)) (sym c.in_ok-push.ensures.items)

pub returns : goal.returns
returns c =
    end_of c.end.result c.loop-left.rest.now _ c.loop-left.options.items c.end.ensures
    (λ e. c.loop-left.invariant
    ∙ each_none option_in next_option c.loop-left.options.items (1000 - c.loop-left._left) c.loop-left.next c.loop-left.rest.now e)
    (λ left e. c.loop-left.invariant
    ∙ each_left option_in next_option c.loop-left.options.items (1000 - c.loop-left._left) c.loop-left.next c.loop-left.rest.now left (omega arith) e)
