use Rattle.std.proofs.Common.{Ok, rules}
use Rattle.std.proofs.lemmas.Result.{err_from_is_err_and}
use Rattle.vx_command.specs.Acts.{writing}
use Rattle.vx_command_demo.specs.Summary.{summary_of}
use Rattle.vx_command_demo.proofs.running.write_summary.Goals as goal

pub returns-in_err-text-clause-done : goal.returns-in_err-text-clause-done
returns-in_err-text-clause-done g c held =
    let err = err_from_is_err_and c.from_residual.result c.from_residual.ensures.1 in
    rw err.1 (c.steps_in_order.ensures.not_given (Ok (summary_of c.args.election.now c.args.plans.now c.args.seed c.args.sheets)) err.0 writing (g.S.Sink.taken c.args.out.now) (search rules) held)
