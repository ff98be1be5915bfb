use Rattle.std.proofs.Common.{◌≡◌, ◌∙◌, ap, sym, subst, arith, ◌+◌}
use Rattle.std.specs.Prelude.{All, filter, ◌<◌}
use Rattle.std.specs.List.{range_with_len}
use Rattle.vx_audit.specs.Sample.{sample_of, is_drawn, where_held}
use Rattle.vx_audit.specs.Walk.{by_place}
use Rattle.vx_audit.proofs.Drawn.{held-filter, filter-below}
use Rattle.vx_audit.proofs.sample.draw_sample.Goals as goal

pub returns-clause-value : goal.returns-clause-value
unfolding sample_of
returns-clause-value c =
    let test = is_drawn c.args.seed c.args.size c.args.count in
    let drawn = c.in_ok-drawn.drawn.items in
    c.in_ok-places.ensures
    ∙ ap (by_place where_held 0) c.as_slice.ensures.value
    ∙ held-filter test 0 drawn (λ i inside. let at : i ≡ 0 + i = omega arith in
    c.in_ok-drawn.ensures.value i (omega (arith, inside, c.in_ok-drawn.ensures.sized)) ∙ ap test at)
    ∙ ap (λ n. filter test (range_with_len 0 n)) c.in_ok-drawn.ensures.sized

pub returns-clause-within : goal.returns-clause-within
unfolding sample_of
returns-clause-within c =
    let test = is_drawn c.args.seed c.args.size c.args.count in
    subst (All (λ k. k < c.args.count)) (sym (returns-clause-value c)) (filter-below test c.args.count)
