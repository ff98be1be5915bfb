use Rattle.std.proofs.Common.{◌≡◌, ◌-◌, ap, ap₂, sym, ◌∙◌, arith, ℕ}
use Rattle.vx_grid.specs.declared.paper.Paper.{Paper}
use Rattle.vx_grid.specs.declared.places.Point.{Point}
use Rattle.vx_grid.specs.Paper.{last_row}
use Rattle.vx_grid.specs.Marks.{marks, marks_to, first_left}
use Rattle.vx_grid.specs.Places.{point_at}
use Rattle.vx_mark_model.specs.Following.{right_of, end_of, right_end_of}
use Rattle.vx_check.specs.Tests.{near_tested}
use Rattle.vx_check.proofs.Places.{within-more, at-point, at-within}
use Rattle.vx_check.proofs.border.check_closing.Goals as goal

pub right_of-end-requires : goal.right_of-end-requires
right_of-end-requires c =
    let border = c.args.border.now in
    let all : c.marks.result ≡ marks border.paper = c.marks.ensures.exact ∙ ap marks c.paper-paper.ensures in
    within-more 4096 8900 c.at.result (omega arith)
    (at-within 4096 border.places (c.marks.result - 1) c.at.result c.at.ensures.place
    (c.requires (c.marks.result - 1) (omega (arith, all, c.marks.ensures.bound.0))))

pub check_near-requires-clause-place : goal.check_near-requires-clause-place
check_near-requires-clause-place c =
    let border = c.args.border.now in
    let first : c.first_left.result ≡ first_left (last_row border.paper) = c.first_left.ensures ∙ ap (λ (p : Paper). first_left (last_row p)) c.paper-paper.ensures in
    within-more 4096 9000 c.at-2.result (omega arith)
    (at-within 4096 border.places (c.first_left.result - 1) c.at-2.result c.at-2.ensures.place (c.requires (c.first_left.result - 1) (omega (arith, first))))

pub returns : goal.returns
returns c =
    let border = c.args.border.now in
    let places = border.places in
    let last : ℕ = last_row border.paper in
    let many : c.marks.result ≡ marks_to last = c.marks.ensures.exact ∙ ap marks c.paper-paper.ensures in
    let many_too : c.marks-2.result ≡ marks_to last = c.marks-2.ensures.exact ∙ ap marks c.paper-paper.ensures in
    let first : c.first_left.result ≡ first_left last = c.first_left.ensures ∙ ap (λ (p : Paper). first_left (last_row p)) c.paper-paper.ensures in
    let end_is : c.right_of-end.result ≡ end_of last places =
    c.right_of-end.ensures.exact
    ∙ ap right_of (sym (at-point places (c.marks.result - 1) c.at.result c.at.ensures.place) ∙ ap (λ (n : ℕ). point_at places (n - 1)) many) in
    let found_is : c.at-2.result ≡ right_end_of last places =
    sym (at-point places (c.first_left.result - 1) c.at-2.result c.at-2.ensures.place) ∙ ap (λ (n : ℕ). point_at places (n - 1)) first in
    c.check_near.ensures
    ∙ (ap (λ (n : ℕ). near_tested n c.right_of-end.result c.at-2.result) many_too
    ∙ ap₂ (λ (p q : Point). near_tested (marks_to last) p q) end_is found_is)
