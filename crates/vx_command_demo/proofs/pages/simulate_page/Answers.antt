use Rattle.std.proofs.Common.{◌≡◌, ap, sym, subst, ◌∙◌}
use Rattle.vx_plane.specs.Plane.{Page, page_of}
use Rattle.vx_grid.specs.Paper.{page_width, page_height}
use Rattle.vx_election_model.specs.declared.election.Election.{Election}
use Rattle.vx_layout.specs.declared.pages.PagePlan.{PagePlan}
use Rattle.vx_code.specs.declared.code.PageCode.{PageCode}
use Rattle.vx_code.specs.Code.{IsInRange, boxes_of}
use Rattle.vx_layout.specs.Print.{print_of}
use Rattle.vx_layout.specs.Printed.{IsPlanned, PrintedPage, code_of}
use Rattle.vx_simulate.specs.Simulated.{IsPrintOf}
use Rattle.vx_command_demo.specs.Trials.{printed_page}
use Rattle.vx_command_demo.proofs.pages.simulate_page.Goals as goal

pub paint-requires-clause-code : goal.paint-requires-clause-code
paint-requires-clause-code g c =
    subst IsInRange (sym c.code_for.ensures)
    (c.planned_pages_can_be_printed.ensures.codes c.args.election.now (printed_page c.args.card c.args.plan.now) c.args.plan.now c.requires.election c.requires.planned).1

-- the print of a page by its code
print-is : (election : Election) (plan : PagePlan) (page : Page) (printed : PrintedPage) (code : PageCode) → IsPlanned election printed plan → code ≡ code_of election printed → page ≡ page_of page_width (page_height plan.paper) (print_of plan (boxes_of code)) → IsPrintOf election plan page printed
print-is election plan page printed code planned is painted = record {
  planned = planned;
  painted = painted ∙ ap (λ (some : PageCode). page_of page_width (page_height plan.paper) (print_of plan (boxes_of some))) is;
}

pub simulate-requires-clause-printed : goal.simulate-requires-clause-printed
simulate-requires-clause-printed g c =
    λ κs lives. (
      printed_page c.args.card c.args.plan.now,
      print-is c.args.election.now c.args.plan.now c.in_ok-page.page (printed_page c.args.card c.args.plan.now) c.code_for.result c.requires.planned c.code_for.ensures c.in_ok-page.ensures,
    )

pub returns-clause-scan : goal.returns-clause-scan
returns-clause-scan g c =
    c.simulate.ensures.scan (printed_page c.args.card c.args.plan.now)
    (print-is c.args.election.now c.args.plan.now c.in_ok-page.page (printed_page c.args.card c.args.plan.now) c.code_for.result c.requires.planned c.code_for.ensures c.in_ok-page.ensures)
