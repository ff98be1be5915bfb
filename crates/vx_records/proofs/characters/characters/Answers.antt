use Rattle.std.proofs.Common.{◌≡◌, ℕ, List, ◌-◌, ◌+◌, ◌∙◌, arith, sym, ap, length}
use Rattle.std.proofs.lemmas.Result.{err_from_is_err_and}
use Rattle.vx_records.specs.Parts.{each_in, passed, done}
use Rattle.vx_records.specs.Characters.{character_in, next_place}
use Rattle.vx_records.proofs.Loops.{pass_goes, pass_stops, pass_none, pass_left, empty, nonempty, end_of, stops_on}
use Rattle.vx_records.proofs.characters.characters.Goals as goal

pub returns-then-is_empty : goal.returns-then-is_empty
returns-then-is_empty c =
    c.loop-seen.invariant
    ∙ pass_none character_in next_place (256 - c.loop-seen._seen) c.loop-seen.room c.loop-seen.rest.now
    (empty c.loop-seen.rest.now (sym c.is_empty.ensures ∙ c.if-is_empty.true))

pub returns-in_err-further : goal.returns-in_err-further
returns-in_err-further c =
    let err = err_from_is_err_and c.from_residual.result c.from_residual.ensures.1 in
    let some = nonempty c.loop-seen.rest.now (sym c.is_empty.ensures ∙ c.if-is_empty.false) in
    rw err.1 (rw err.2 (stops_on c.in_err-further.field-0.0 _ _ c.in_err-further.ensures
    (λ left e. c.loop-seen.invariant
    ∙ pass_stops character_in next_place (256 - (c.loop-seen._seen + 1)) (256 - c.loop-seen._seen) c.loop-seen.room c.loop-seen.rest.now left (omega arith) some e)))

pub loop-seen-preserved : goal.loop-seen-preserved
loop-seen-preserved c =
    let room : c.saturating_sub-room.result ≡ c.loop-seen.room - (length c.loop-seen.rest.now - length c.in_ok-further.further.now) = cc (c.saturating_sub-room.ensures, c.saturating_sub.ensures) in
    let some = nonempty c.loop-seen.rest.now (sym c.is_empty.ensures ∙ c.if-is_empty.false) in
    c.loop-seen.invariant
    ∙ pass_goes character_in next_place (256 - (c.loop-seen._seen + 1)) (256 - c.loop-seen._seen) c.loop-seen.room c.loop-seen.rest.now
    c.in_ok-further.further.now done (omega arith) some c.in_ok-further.ensures
    ∙ ap (λ (room : ℕ). passed (each_in character_in next_place (256 - (c.loop-seen._seen + 1)) room c.in_ok-further.further.now)) (sym room)

pub returns : goal.returns
returns c =
    end_of c.end.result c.loop-seen.rest.now _ done c.end.ensures
    (λ e. c.loop-seen.invariant
    ∙ pass_none character_in next_place (256 - c.loop-seen._seen) c.loop-seen.room c.loop-seen.rest.now e)
    (λ left e. c.loop-seen.invariant
    ∙ pass_left character_in next_place (256 - c.loop-seen._seen) c.loop-seen.room c.loop-seen.rest.now left (omega arith) e)
