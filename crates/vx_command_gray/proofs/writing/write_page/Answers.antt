use Rattle.std.proofs.Common.{Ok, rules}
use Rattle.std.proofs.lemmas.Result.{err_from_is_err_and}
use Rattle.vx_pbm.specs.Raw.{p4_of}
use Rattle.vx_gray.specs.Gray.{bits_of}
use Rattle.vx_command.specs.Acts.{writing}
use Rattle.vx_command_gray.proofs.writing.write_page.Goals as goal

pub returns-in_err-text-clause-done : goal.returns-in_err-text-clause-done
returns-in_err-text-clause-done g c held =
    let err = err_from_is_err_and c.from_residual.result c.from_residual.ensures.1 in
    rw err.1 (c.steps_in_order.ensures.not_given (Ok (p4_of (bits_of c.args.page.now))) err.0 writing (g.S.Sink.taken c.args.out.now) (search rules) held)
