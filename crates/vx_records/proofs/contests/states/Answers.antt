use Rattle.std.proofs.lemmas.Result.{err_from_is_err_and}
use Rattle.vx_records.proofs.Loops.{states_stops, stops_on}
use Rattle.vx_records.proofs.contests.states.Goals as goal

pub returns-in_err-letters : goal.returns-in_err-letters
returns-in_err-letters c =
    let err = err_from_is_err_and c.from_residual.result c.from_residual.ensures.1 in
    rw err.1 (rw err.2 (stops_on c.in_err-letters.field-0.0 _ _ c.in_err-letters.ensures.exact
    (λ left e. states_stops c.min.result c.args.room left c.args.text.now c.min.ensures e)))
