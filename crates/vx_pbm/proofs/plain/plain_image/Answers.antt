use Rattle.std.proofs.Common.{sym, ◌∙◌, ap, Err}
use Rattle.std.proofs.lemmas.Result.{err_from_is_err_and}
use Rattle.std.proofs.lemmas.List.{take_rest}
use Rattle.vx_base.proofs.Results.{Gives-same}
use Rattle.vx_pbm.specs.Faults.{is_no_memory}
use Rattle.vx_pbm.proofs.Plains.{plain_fault, plain_found}
use Rattle.vx_pbm.proofs.plain.plain_image.Goals as goal

pub returns-in_err-end-clause-exact : goal.returns-in_err-end-clause-exact
returns-in_err-end-clause-exact c =
    let p = err_from_is_err_and c.from_residual-in_err-end.result c.from_residual-in_err-end.ensures.1 in
    Gives-same is_no_memory c.from_residual-in_err-end.result _
    (plain_fault c.in_ok-header.header c.args.bytes.now _ c.in_ok-page.page c.in_err-end.field-0.0 c.in_ok-header.ensures.exact c.in_ok-page.ensures (take_rest c.args.bytes.now c.in_ok-header.header.size) c.in_err-end.ensures.exact
    ∙ sym (p.1 ∙ ap Err p.2))

pub returns-clause-exact : goal.returns-clause-exact
returns-clause-exact c =
    plain_found c.in_ok-header.header c.args.bytes.now _ c.in_ok-page.page c.fill.new.page c.in_ok-end.end c.in_ok-header.ensures.exact c.in_ok-page.ensures (take_rest c.args.bytes.now c.in_ok-header.header.size) c.in_ok-end.ensures.exact c.in_ok-end.ensures.filled
