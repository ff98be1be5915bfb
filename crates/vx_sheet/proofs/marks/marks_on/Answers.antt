use Rattle.std.proofs.Common.{◌≡◌, ◌∙◌, ap, arith, rules, sym, ◌++◌, List}
use Rattle.std.specs.List.{flat_map, range_with_len}
use Rattle.vx_base.proofs.Ranges.{flat_map-range_more}
use Rattle.vx_rules.specs.declared.marks.ContestMarks.{ContestMarks}
use Rattle.vx_sheet.specs.Sheet.{contest_limit, marks_if_on}
use Rattle.vx_sheet.proofs.marks.marks_on.Goals as goal

pub loop-contest-preserved : goal.loop-contest-preserved
loop-contest-preserved c =
    c.in_ok-add_marks.ensures
    ∙ ap (λ (list : List ContestMarks). list ++ marks_if_on c.args.plan.now c.args.front.now c.args.back.now c.loop-contest.contest) c.loop-contest.invariant
    ∙ sym (flat_map-range_more (marks_if_on c.args.plan.now c.args.front.now c.args.back.now) c.loop-contest.contest)

pub returns : goal.returns
unfolding contest_limit
returns c =
    let end : c.loop-contest.contest ≡ 500 = omega arith in
    c.from_vec.ensures ∙ c.loop-contest.invariant ∙ ap (λ n. flat_map (marks_if_on c.args.plan.now c.args.front.now c.args.back.now) (range_with_len 0 n)) end
