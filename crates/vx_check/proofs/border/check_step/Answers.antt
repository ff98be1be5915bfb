use Rattle.std.proofs.Common.{◌≡◌, ap, ap₂, sym, ◌∙◌, arith}
use Rattle.vx_grid.specs.declared.paper.Paper.{Paper}
use Rattle.vx_grid.specs.declared.places.Point.{Point}
use Rattle.vx_grid.specs.Paper.{last_row}
use Rattle.vx_mark_model.specs.Following.{leader_of, expected_from, prediction_of}
use Rattle.vx_check.specs.Tests.{near_tested}
use Rattle.vx_check.proofs.Places.{within-more, at-point, at-within, predicted-at, later-step}
use Rattle.vx_check.proofs.border.check_step.Goals as goal

pub expected-requires : goal.expected-requires
expected-requires c =
    within-more 4096 8900 c.at-leader.result (omega arith)
    (at-within 4096 c.args.border.now.places c.leader_of.result c.at-leader.result c.at-leader.ensures.place
    (c.requires.within c.leader_of.result (omega (arith, c.leader_of.ensures.before))))

pub check_near-requires-clause-place : goal.check_near-requires-clause-place
check_near-requires-clause-place c =
    within-more 4096 9000 c.at.result (omega arith) (at-within 4096 c.args.border.now.places c.args.k c.at.result c.at.ensures.place (c.requires.within c.args.k (omega arith)))

pub returns : goal.returns
returns c =
    let k = c.args.k in
    let places = c.args.border.now.places in
    let last = last_row c.args.border.now.paper in
    let leads : c.leader_of.result ≡ leader_of last k = c.leader_of.ensures.exact ∙ ap (λ (p : Paper). leader_of (last_row p) k) c.paper.ensures in
    let expected : c.expected.result ≡ expected_from last k c.at-leader.result =
    c.expected.ensures.exact ∙ ap (λ (p : Paper). expected_from (last_row p) k c.at-leader.result) c.paper-2.ensures in
    let predicted : c.expected.result ≡ prediction_of last places k = predicted-at last k c.leader_of.result places c.at-leader.result c.expected.result leads c.at-leader.ensures.place expected in
    c.check_near.ensures
    ∙ ap₂ (λ (p q : Point). near_tested k p q) predicted (sym (at-point places k c.at.result c.at.ensures.place))
    ∙ sym (later-step last places k c.if-k-eq0.false)
