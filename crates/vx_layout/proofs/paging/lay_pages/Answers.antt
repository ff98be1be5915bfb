use Rattle.std.proofs.Common.{◌+◌, ◌++◌, ◌∷◌, [], List, sym, ap₂, ◌∙◌, arith}
use Rattle.std.proofs.lemmas.List.FromFn.{map-range_with_len_more}
use Rattle.vx_layout.specs.declared.pages.PagePlan.{PagePlan}
use Rattle.vx_layout.specs.Plan.{page_plan}
use Rattle.vx_layout.proofs.paging.lay_pages.Goals as goal

pub loop-before-preserved : goal.loop-before-preserved
loop-before-preserved c =
    let plan = page_plan c.args.election.now c.args.card c.args.blocks.now c.args.of in
    c.in_ok-push.ensures
    ∙ ap₂ (λ (pages : List PagePlan) (page : PagePlan). pages ++ page ∷ []) c.loop-before.invariant c.in_ok-lay_page.ensures
    ∙ sym (map-range_with_len_more plan 1 c.loop-before.before (c.loop-before.before + 1) (omega arith))
