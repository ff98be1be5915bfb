use Rattle.std.proofs.Common.{◌∙◌, Err, ap}
use Rattle.std.proofs.lemmas.Result.{err_from_is_err_and}
use Rattle.vx_election_model.specs.declared.election.Election.{Election}
use Rattle.vx_command.specs.Elections.{election_in}
use Rattle.vx_ranked.specs.Outcome.{RankedOutcome, planned_outcome, ranked_outcome}
use Rattle.vx_ranked.proofs.Acts.{comes_done, not_taken, taken}
use Rattle.vx_ranked.proofs.Stops.{election_stops}
use Rattle.vx_ranked.proofs.taking.rank.Goals as goal

pub returns-in_err-given-clause-done : goal.returns-in_err-given-clause-done
returns-in_err-given-clause-done g c files told records kept =
    let err = err_from_is_err_and c.from_residual.result c.from_residual.ensures.1 in
    let rest : Election → RankedOutcome = λ given. planned_outcome given (files c.args.ranked.now) records in
    rw (err.1 ∙ ap Err err.2)
    (not_taken c.steps_in_order.ensures (election_in (files c.args.election.now)) rest (g.S.Sink.taken c.args.out.now)
    (g.K.Keeper.held c.args.keeper.now) 1 _ (c.in_err-given.ensures.told files told))

pub returns-clause-done : goal.returns-clause-done
returns-clause-done g c files told records kept =
    let file = files c.args.ranked.now in
    let given = c.in_ok-given.given in
    let rest : Election → RankedOutcome = λ one. planned_outcome one file records in
    let out = g.S.Sink.taken c.args.out.now in
    let held = g.K.Keeper.held c.args.keeper.now in
    comes_done (ranked_outcome c.args.election.now c.args.ranked.now files records) (rest given) out out (g.S.Sink.taken c.rank_planned-done.new.out) held held
    (g.K.Keeper.held c.rank_planned-done.new.keeper) c.rank_planned-done.result
    (taken c.steps_in_order.ensures (election_in (files c.args.election.now)) rest out held 1 given (c.in_ok-given.ensures.told files told))
    (c.rank_planned-done.ensures.done files (c.take_election.ensures.inputs.inputs.same ∙ told) records kept)

pub returns-in_err-given-clause-stops : goal.returns-in_err-given-clause-stops
returns-in_err-given-clause-stops g c =
    let err = err_from_is_err_and c.from_residual.result c.from_residual.ensures.1 in
    rw (err.1 ∙ ap Err err.2) (election_stops c.in_err-given.field-0.0 c.in_err-given.ensures.halts)
