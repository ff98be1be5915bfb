use Rattle.std.proofs.Common.{◌≡◌, ℕ, ap, sym, ◌∙◌, arith, below_more}
use Rattle.std.specs.Prelude.{Ok}
use Rattle.std.proofs.lemmas.Result.{err_from_is_err_and}
use Rattle.vx_grid.specs.Paper.{last_row}
use Rattle.vx_grid.specs.Marks.{marks}
use Rattle.vx_grid.specs.Places.{point_at}
use Rattle.vx_check.specs.Tests.{mark_tested, step_tested, place_tested}
use Rattle.vx_check.proofs.Orders.{both-passed, in_order-fails, in_order-passes}
use Rattle.vx_check.proofs.Places.{mark-accepted}
use Rattle.vx_check.proofs.border.check_places.Goals as goal

pub returns-in_err-check_place-clause-exact : goal.returns-in_err-check_place-clause-exact
returns-in_err-check_place-clause-exact c =
    let border = c.args.border.now in
    let all : c.marks-k-end.result ≡ marks border.paper = c.marks-k-end.ensures.exact ∙ ap marks c.paper.ensures in
    let p = err_from_is_err_and c.from_residual.result c.from_residual.ensures.1 in
    rw (p.1, p.2) (sym (in_order-fails (place_tested c.args.counter.now (last_row border.paper) border.places) 0 (marks border.paper) c.loop-k.k _
    (λ j from before. c.loop-k.invariant j before) (omega arith) (omega (arith, all, c.loop-k-test.true)) (sym c.in_err-check_place.ensures)))

pub loop-k-preserved : goal.loop-k-preserved
loop-k-preserved c =
    let border = c.args.border.now in
    below_more (λ (j : ℕ). place_tested c.args.counter.now (last_row border.paper) border.places j ≡ Ok tt) c.loop-k.k c.loop-k.invariant (sym c.in_ok-check_place.ensures)

pub returns-clause-exact : goal.returns-clause-exact
returns-clause-exact c =
    let border = c.args.border.now in
    let all : c.marks-k-end.result ≡ marks border.paper = c.marks-k-end.ensures.exact ∙ ap marks c.paper.ensures in
    sym (in_order-passes (place_tested c.args.counter.now (last_row border.paper) border.places) 0 (marks border.paper)
    (λ j from less. c.loop-k.invariant j (omega (arith, less, all))))

pub returns-clause-accepted : goal.returns-clause-accepted
returns-clause-accepted c =
    let page = c.args.counter.now in
    let border = c.args.border.now in
    let last = last_row border.paper in
    let all : c.marks-k-end.result ≡ marks border.paper = c.marks-k-end.ensures.exact ∙ ap marks c.paper.ensures in
    λ k less.
    mark-accepted c.places_are_tested.ensures c.accepted_places_are_framed.ensures page k (point_at border.places k)
    (both-passed (mark_tested page k (point_at border.places k)) (step_tested last border.places k) tt (c.loop-k.invariant k (omega (arith, less, all)))).0
