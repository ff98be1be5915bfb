use Rattle.std.proofs.Common.{◌≡◌, ℕ, List, ◌-◌, ◌+◌, ◌∙◌, arith, sym, ap, length, ◌++◌, ◌∷◌, []}
use Rattle.vx_rules.specs.declared.marks.ContestMarks.{ContestMarks}
use Rattle.std.proofs.lemmas.Result.{err_from_is_err_and}
use Rattle.vx_records.specs.Parts.{behind, each_in}
use Rattle.vx_records.specs.Reading.{next_room, contest_in}
use Rattle.vx_records.proofs.Loops.{each_goes, each_stops, each_none, each_left, empty, nonempty, end_of, stops_on}
use Rattle.vx_records.proofs.contests.further_contests.Goals as goal

pub returns-then-is_empty : goal.returns-then-is_empty
returns-then-is_empty c =
    c.loop-left.invariant
    ∙ each_none contest_in next_room c.loop-left.list.items (500 - c.loop-left._left) c.loop-left.next c.loop-left.rest.now
    (empty c.loop-left.rest.now (sym c.is_empty.ensures ∙ c.if-is_empty.true))

pub returns-in_err-marks : goal.returns-in_err-marks
returns-in_err-marks c =
    let err = err_from_is_err_and c.from_residual.result c.from_residual.ensures.1 in
    let some = nonempty c.loop-left.rest.now (sym c.is_empty.ensures ∙ c.if-is_empty.false) in
    rw err.1 (rw err.2 (stops_on c.in_err-marks.field-0.0 _ _ c.in_err-marks.ensures.exact
    (λ left e. c.loop-left.invariant
    ∙ each_stops contest_in next_room c.loop-left.list.items (500 - (c.loop-left._left + 1)) (500 - c.loop-left._left) c.loop-left.next c.loop-left.rest.now left (omega arith) some e)))

pub loop-left-preserved : goal.loop-left-preserved
loop-left-preserved c =
    let room : c.saturating_sub.result ≡ c.loop-left.next.room - (length c.loop-left.rest.now - length c.in_ok-marks.further.now) = cc (c.saturating_sub.ensures, c.saturating_sub-spent.ensures) in
    let some = nonempty c.loop-left.rest.now (sym c.is_empty.ensures ∙ c.if-is_empty.false) in
    c.loop-left.invariant
    ∙ each_goes contest_in next_room c.loop-left.list.items (500 - (c.loop-left._left + 1)) (500 - c.loop-left._left) c.loop-left.next c.loop-left.rest.now
    c.in_ok-marks.further.now c.in_ok-marks.marks (omega arith) some c.in_ok-marks.ensures.exact
    ∙ ap (λ (room : ℕ). behind (c.loop-left.list.items ++ c.in_ok-marks.marks ∷ []) (each_in contest_in next_room (500 - (c.loop-left._left + 1)) (record { least = c.in_ok-marks.marks.contest + 1; room = room }) c.in_ok-marks.further.now)) (sym room)
    ∙ ap (λ (xs : List ContestMarks). behind xs (each_in contest_in next_room (500 - (c.loop-left._left + 1)) (record { least = c.in_ok-marks.marks.contest + 1; room = c.saturating_sub.result }) c.in_ok-marks.further.now)) (sym c.in_ok-push.ensures.items)

pub returns : goal.returns
returns c =
    end_of c.end.result c.loop-left.rest.now _ c.loop-left.list.items c.end.ensures
    (λ e. c.loop-left.invariant
    ∙ each_none contest_in next_room c.loop-left.list.items (500 - c.loop-left._left) c.loop-left.next c.loop-left.rest.now e)
    (λ left e. c.loop-left.invariant
    ∙ each_left contest_in next_room c.loop-left.list.items (500 - c.loop-left._left) c.loop-left.next c.loop-left.rest.now left (omega arith) e)
