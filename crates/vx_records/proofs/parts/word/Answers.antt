use Rattle.std.proofs.Common.{drop, length, sym, ◌∙◌, arith}
use Rattle.std.proofs.lemmas.Result.{err_from_is_err_and}
use Rattle.vx_records.proofs.Loops.{stops_on, word_goes, word_stops, word_end}
use Rattle.vx_records.proofs.parts.word.Goals as goal

pub returns-in_err-rest : goal.returns-in_err-rest
returns-in_err-rest c =
    let err = err_from_is_err_and c.from_residual.result c.from_residual.ensures.1 in
    rw err.1 (rw err.2 (stops_on c.in_err-rest.field-0.0 _ _ c.in_err-rest.ensures
    (λ left e. c.loop-wanted.invariant ∙ word_stops c.args.word.now c.loop-wanted.wanted-index left c.loop-wanted.rest.now (omega arith) e)))

pub loop-wanted-preserved : goal.loop-wanted-preserved
loop-wanted-preserved c =
    c.loop-wanted.invariant ∙ word_goes c.args.word.now c.loop-wanted.wanted-index c.loop-wanted.rest.now c.in_ok-rest.rest.now (omega arith) c.in_ok-rest.ensures

pub returns : goal.returns
returns c = c.loop-wanted.invariant ∙ word_end c.args.word.now c.loop-wanted.wanted-index c.loop-wanted.rest.now (omega arith)
