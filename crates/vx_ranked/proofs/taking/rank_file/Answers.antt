use Rattle.std.proofs.Common.{◌≡◌, ◌∙◌, ℕ, List, Ok, Err, ap, subst, sym}
use Rattle.std.proofs.lemmas.Result.{err_from_is_err_and}
use Rattle.vx_command.specs.Acts.{input_limit, input_of}
use Rattle.vx_ranked.specs.Outcome.{file_outcome, groups_outcome}
use Rattle.vx_ranked.proofs.Acts.{comes_done, not_taken, taken}
use Rattle.vx_ranked.proofs.Stops.{taking_stops}
use Rattle.vx_ranked.proofs.taking.rank_file.Goals as goal

pub returns-in_err-bytes-clause-done : goal.returns-in_err-bytes-clause-done
returns-in_err-bytes-clause-done g c files told held =
    let err = err_from_is_err_and c.from_residual.result c.from_residual.ensures.1 in
    rw (err.1 ∙ ap Err err.2)
    (not_taken c.steps_in_order.ensures (input_of 2 input_limit (files c.args.ranked.now))
    (groups_outcome c.args.election.now c.args.plans.now c.args.center.now.events) (g.S.Sink.taken c.args.out.now) held 2 _
    (c.in_err-bytes.ensures.told files told))

pub returns-clause-done : goal.returns-clause-done
returns-clause-done g c files told held =
    let election = c.args.election.now in
    let plans = c.args.plans.now in
    let kept = c.args.center.now.events in
    let file = files c.args.ranked.now in
    let Given : List ℕ → Type 0 = λ bytes. input_of 2 input_limit file ≡ Ok bytes in
    let given = subst Given (sym c.as_slice.ensures) (c.in_ok-bytes.ensures.told files told) in
    comes_done (file_outcome election plans kept file) (groups_outcome election plans kept c.as_slice.result.now) (g.S.Sink.taken c.args.out.now)
    (g.S.Sink.taken c.args.out.now) (g.S.Sink.taken c.write_rounds.new.out) held held held c.write_rounds.result
    (taken c.steps_in_order.ensures (input_of 2 input_limit file) (groups_outcome election plans kept) (g.S.Sink.taken c.args.out.now) held 2
    c.as_slice.result.now given)
    (c.write_rounds.ensures.done held)

pub returns-in_err-bytes-clause-stops : goal.returns-in_err-bytes-clause-stops
returns-in_err-bytes-clause-stops g c =
    let err = err_from_is_err_and c.from_residual.result c.from_residual.ensures.1 in
    rw (err.1 ∙ ap Err err.2) (taking_stops 2 c.in_err-bytes.field-0.0 c.in_err-bytes.ensures.halts)
