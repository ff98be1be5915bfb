use Rattle.std.proofs.Common.{ap, sym, subst, ◌∙◌}
use Rattle.vx_grid.specs.Paper.{page_width, page_height}
use Rattle.vx_plane.specs.Plane.{page_of}
use Rattle.vx_code.specs.declared.code.PageCode.{PageCode}
use Rattle.vx_code.specs.Code.{IsInRange, boxes_of}
use Rattle.vx_layout.specs.Print.{print_of}
use Rattle.vx_trials_pages.specs.First.{first_card}
use Rattle.vx_trials_pages.proofs.simulated.print_page.Goals as goal

pub paint-requires-clause-code : goal.paint-requires-clause-code
paint-requires-clause-code c =
    let plan = c.args.plan.now in
    subst (λ (code : PageCode). IsInRange code) (sym c.code_for-code.ensures)
    (c.planned_pages_can_be_printed.ensures.codes c.args.election.now (first_card plan) plan c.requires.valid c.requires.planned).1

pub returns : goal.returns
returns c = record {
  planned = c.requires.planned;
  painted = c.in_ok-paint.ensures
      ∙ ap (λ (code : PageCode). page_of page_width (page_height c.args.plan.now.paper) (print_of c.args.plan.now (boxes_of code))) c.code_for-code.ensures;
}
