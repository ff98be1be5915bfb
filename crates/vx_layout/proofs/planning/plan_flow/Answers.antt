use Rattle.std.proofs.Common.{◌≤◌, List, length, sym, ap, ◌∙◌, subst, arith}
use Rattle.std.specs.Prelude.{All}
use Rattle.std.proofs.lemmas.List.FromFn.{length-map-range_with_len}
use Rattle.vx_election_model.specs.declared.contest.Contest.{Contest}
use Rattle.vx_layout.specs.declared.flow.Block.{Block}
use Rattle.vx_layout.specs.declared.pages.PagePlan.{PagePlan}
use Rattle.vx_layout.specs.Flow.{top, blocks_from, IsPlaced}
use Rattle.vx_layout.specs.Plan.{page_plan, IsModest}
use Rattle.vx_layout.proofs.Placing.{All-placed, length-blocks_from}
use Rattle.vx_layout.proofs.Standing.{modest-pages}
use Rattle.vx_layout.proofs.planning.plan_flow.Goals as goal

pub lay_pages-requires-clause-placed : goal.lay_pages-requires-clause-placed
lay_pages-requires-clause-placed c =
    let paper = c.args.election.now.paper in
    let contests = c.args.election.now.contests in
    let Placed : List Block → Type 0 = All (IsPlaced paper contests) in
    let blocks = c.as_slice-2.ensures.value ∙ c.in_ok-flow.ensures.blocks ∙ ap (λ (list : List Contest). blocks_from paper list top c.args.numbers.now) c.as_slice.ensures in
    subst Placed (sym blocks) (All-placed paper contests top c.args.numbers.now c.requires.stand)

pub hollow_on-hollow-requires-clause-modest : goal.hollow_on-hollow-requires-clause-modest
hollow_on-hollow-requires-clause-modest c =
    let paper = c.args.election.now.paper in
    let contests = c.args.election.now.contests in
    let Placed : List Block → Type 0 = All (IsPlaced paper contests) in
    let blocks = c.as_slice-2.ensures.value ∙ c.in_ok-flow.ensures.blocks ∙ ap (λ (list : List Contest). blocks_from paper list top c.args.numbers.now) c.as_slice.ensures in
    let Modest : List PagePlan → Type 0 = All IsModest in
    let few : length c.as_slice-2.result.now ≤ 500 = omega (arith, ap length blocks, length-blocks_from paper contests top c.args.numbers.now, c.requires.few) in
    subst Modest (sym (c.as_slice-3.ensures ∙ c.in_ok-pages.ensures))
    (modest-pages c.args.election.now c.args.card c.as_slice-2.result.now c.even_up-of.result c.requires.sizes
    (subst Placed (sym blocks) (All-placed paper contests top c.args.numbers.now c.requires.stand)) few)

pub hollow_on-hollow-requires-clause-few : goal.hollow_on-hollow-requires-clause-few
hollow_on-hollow-requires-clause-few c =
    omega (arith, ap length (c.as_slice-3.ensures ∙ c.in_ok-pages.ensures), length-map-range_with_len (page_plan c.args.election.now c.args.card c.as_slice-2.result.now c.even_up-of.result) 1 c.even_up-of.result)
