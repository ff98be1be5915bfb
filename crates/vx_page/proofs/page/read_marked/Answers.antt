use Rattle.std.proofs.Common.{ap, ◌∙◌, sym, subst}
use Rattle.std.specs.Prelude.{All}
use Rattle.vx_grid.specs.declared.paper.Paper.{Paper}
use Rattle.vx_layout.specs.Pages.{IsOnGrid}
use Rattle.vx_scan_model.specs.Reading.{code_read, scores_of, states_of}
use Rattle.vx_page.proofs.Answered.{gives-fault, reading-unnamed, reading-planned, read-on}
use Rattle.vx_page.proofs.page.read_marked.Goals as goal

pub returns-in_err-plan : goal.returns-in_err-plan
returns-in_err-plan c =
    let election = c.args.election.now in
    let page = c.args.counter.now in
    let border = c.args.border in
    let fault = c.in_err-plan.field-0.0 in
    gives-fault election c.from_residual.result _ fault c.from_residual.ensures.1
    (reading-unnamed election page border c.in-Ok.code (code_read page border) fault c.in-Ok.ensures c.in_err-plan.ensures)

pub scores_of-requires-clause-bubbles : goal.scores_of-requires-clause-bubbles
scores_of-requires-clause-bubbles c =
    let OnGrid : Paper → Type 0 = λ paper. All (IsOnGrid paper) c.in_ok-plan.plan.now.bubbles in
    subst (All (IsOnGrid c.args.border.paper)) (sym c.as_slice.ensures)
    (subst OnGrid (sym c.requires.paper)
    (c.named_pages_stand_on_the_grid.ensures c.args.election.now c.in-Ok.code c.in_ok-plan.plan.now c.requires.election c.in_ok-plan.ensures).on_grid)

pub returns : goal.returns
returns c =
    let election = c.args.election.now in
    let page = c.args.counter.now in
    let border = c.args.border in
    let scored = c.in_ok-scores.ensures ∙ ap (scores_of page border) c.as_slice.ensures in
    let stated = c.in_ok-states.ensures ∙ ap (states_of election.thresholds) c.as_slice-2.ensures in (
      reading-planned election page border c.in-Ok.code (code_read page border) c.in_ok-plan.plan.now c.in_ok-scores.scores c.in_ok-states.states
          c.in-Ok.ensures c.in_ok-plan.ensures scored stated,
      read-on election page border c.in-Ok.code c.in_ok-plan.plan.now c.in_ok-scores.scores c.in_ok-states.states c.in_ok-plan.ensures scored stated,
    )
