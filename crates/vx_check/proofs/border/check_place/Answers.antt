use Rattle.std.proofs.Common.{ℕ, sym, subst, ◌∙◌, arith, below_more}
use Rattle.std.proofs.lemmas.Result.{err_from_is_err_and}
use Rattle.vx_grid.specs.declared.places.Point.{Point}
use Rattle.vx_grid.specs.Paper.{last_row}
use Rattle.vx_grid.specs.Places.{point_at}
use Rattle.vx_mark_model.specs.Mark.{IsAccepted}
use Rattle.vx_check.proofs.Places.{at-point, mark-accepted, mark-fails, mark-passes}
use Rattle.vx_check.proofs.border.check_place.Goals as goal

pub returns-in_err-check_mark : goal.returns-in_err-check_mark
returns-in_err-check_mark c =
    let p = err_from_is_err_and c.from_residual.result c.from_residual.ensures.1 in
    rw (p.1, p.2) (sym (mark-fails c.args.counter.now (last_row c.args.border.now.paper) c.args.border.now.places c.args.k c.at.result _ c.at.ensures.place (sym c.in_err-check_mark.ensures)))

pub check_step-requires-clause-within : goal.check_step-requires-clause-within
check_step-requires-clause-within c =
    let page = c.args.counter.now in
    let places = c.args.border.now.places in
    let k = c.args.k in
    let own : IsAccepted page (point_at places k) =
    subst (λ (q : Point). IsAccepted page q) (sym (at-point places k c.at.result c.at.ensures.place))
    (mark-accepted c.places_are_tested.ensures c.accepted_places_are_framed.ensures page k c.at.result (sym c.in_ok-check_mark.ensures)) in
    λ j less. c.accepted_places_are_framed.ensures page 4096 (point_at places j) (omega arith) (omega arith)
    (below_more (λ (i : ℕ). IsAccepted page (point_at places i)) k c.requires.before own j (omega (arith, less)))

pub returns : goal.returns
returns c =
    c.check_step.ensures
    ∙ sym (mark-passes c.args.counter.now (last_row c.args.border.now.paper) c.args.border.now.places c.args.k c.at.result c.at.ensures.place (sym c.in_ok-check_mark.ensures))
