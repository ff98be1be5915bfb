use Rattle.std.proofs.Common.{sym, ◌∙◌, arith}
use Rattle.std.proofs.lemmas.Result.{err_from_is_err_and}
use Rattle.vx_grid.specs.Marks.{marks}
use Rattle.vx_check.proofs.Places.{corner-fails, places-fail, places-pass, all-within, on-ok}
use Rattle.vx_check.proofs.border.check_border.Goals as goal

pub returns-in_err-check_corner-clause-exact : goal.returns-in_err-check_corner-clause-exact
returns-in_err-check_corner-clause-exact c =
    let p = err_from_is_err_and c.from_residual.result c.from_residual.ensures.1 in
    rw (p.1, p.2) (sym (corner-fails c.args.counter.now c.args.border.now c.at.result _ c.at.ensures.place (sym c.in_err-check_corner.ensures)))

pub returns-in_err-check_places-clause-exact : goal.returns-in_err-check_places-clause-exact
returns-in_err-check_places-clause-exact c =
    let p = err_from_is_err_and c.from_residual-in_err-check_places.result c.from_residual-in_err-check_places.ensures.1 in
    rw (p.1, p.2) (sym (places-fail c.args.counter.now c.args.border.now c.at.result _ c.at.ensures.place (sym c.in_ok-check_corner.ensures) (sym c.in_err-check_places.ensures.exact)))

pub returns-clause-exact : goal.returns-clause-exact
returns-clause-exact c =
    c.check_closing.ensures
    ∙ sym (places-pass c.args.counter.now c.args.border.now c.at.result c.at.ensures.place (sym c.in_ok-check_corner.ensures) (sym c.in_ok-check_places.ensures.exact))

pub returns-clause-within : goal.returns-clause-within
returns-clause-within c =
    let page = c.args.counter.now in
    let border = c.args.border.now in
    on-ok c.check_closing.result
    (λ ok. all-within c.accepted_places_are_framed.ensures page (marks border.paper) 9000 border.places (omega arith)
    (omega arith) c.at.ensures.all c.in_ok-check_places.ensures.accepted)
