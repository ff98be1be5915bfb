use Rattle.std.proofs.Common.{◌≡◌, ap, sym, subst, ◌∙◌}
use Rattle.std.specs.Prelude.{is_ok}
use Rattle.std.proofs.lemmas.Bool.{false≢true}
use Rattle.std.proofs.lemmas.Result.{err_from_is_err_and}
use Rattle.vx_grid.specs.declared.paper.Paper.{Paper}
use Rattle.vx_scan_model.specs.Named.{StandsOnPaper}
use Rattle.vx_check.specs.Tests.{paper_tested, border_tested, plan_tested, bubbles_tested, upright_tested}
use Rattle.vx_check.proofs.Places.{paper-same, ok-is}
use Rattle.vx_check.proofs.Codes.{plan-named}
use Rattle.vx_check.proofs.Certified.{laws-of, bubbles-left, tested-certified, marks-pass, plan-passes, certified-tested, never-passes}
use Rattle.vx_check.proofs.checking.check_upright.Goals as goal

pub returns-in_err-check_border-clause-certified : goal.returns-in_err-check_border-clause-certified
returns-in_err-check_border-clause-certified c =
    let laws =
    laws-of c.places_are_tested.ensures c.accepted_places_are_framed.ensures c.codes_are_given_back.ensures c.codes_name_printed_pages.ensures in
    let p = err_from_is_err_and c.from_residual-in_err-check_border.result c.from_residual-in_err-check_border.ensures.1 in
    rw p.1 (
      λ ok. absurd (false≢true ok),
      λ certified. absurd (never-passes (border_tested c.args.counter.now c.args.reading.now.border) _ tt (sym c.in_err-check_border.ensures.exact)
          (marks-pass laws c.args.election.now c.args.counter.now c.args.reading.now certified)),
    )

pub returns-in_err-plan-clause-certified : goal.returns-in_err-plan-clause-certified
returns-in_err-plan-clause-certified c =
    let laws =
    laws-of c.places_are_tested.ensures c.accepted_places_are_framed.ensures c.codes_are_given_back.ensures c.codes_name_printed_pages.ensures in
    let p = err_from_is_err_and c.from_residual-in_err-plan.result c.from_residual-in_err-plan.ensures.1 in
    rw p.1 (
      λ ok. absurd (false≢true ok),
      λ certified. absurd (never-passes (plan_tested c.args.election.now c.args.reading.now.code) _ certified.plan c.in_err-plan.ensures
          (plan-passes laws c.args.election.now c.args.counter.now c.args.reading.now certified)),
    )

pub check_bubbles-requires-clause-stands : goal.check_bubbles-requires-clause-stands
check_bubbles-requires-clause-stands c =
    let election = c.args.election.now in
    let reading = c.args.reading.now in
    let plan = c.in_ok-plan.plan.now in
    let paper : election.paper ≡ reading.border.paper = sym (paper-same election.paper c.paper.result (sym c.in_ok-check_paper.ensures)) ∙ c.paper.ensures in
    subst (λ (p : Paper). StandsOnPaper p plan) paper
    (c.named_pages_stand_on_the_grid.ensures election reading.code plan c.requires.election (plan-named election reading.code plan c.in_ok-plan.ensures).1)

pub returns-clause-certified : goal.returns-clause-certified
returns-clause-certified c =
    let election = c.args.election.now in
    let page = c.args.counter.now in
    let reading = c.args.reading.now in
    let plan = c.in_ok-plan.plan.now in
    let laws =
    laws-of c.places_are_tested.ensures c.accepted_places_are_framed.ensures c.codes_are_given_back.ensures c.codes_name_printed_pages.ensures in
    let left : upright_tested election page reading ≡ bubbles_tested election.thresholds page reading plan =
    bubbles-left laws election page reading plan (sym c.in_ok-check_frame.ensures) (ap (paper_tested election.paper) (sym c.paper.ensures) ∙ sym c.in_ok-check_paper.ensures)
    (sym c.in_ok-check_border.ensures.exact) (sym c.in_ok-check_code.ensures.exact) c.in_ok-plan.ensures in (
      λ ok. tested-certified laws election page reading (left ∙ (sym c.check_bubbles.ensures ∙ ok-is c.check_bubbles.result ok)),
      λ certified. ap is_ok (c.check_bubbles.ensures ∙ (sym left ∙ certified-tested laws election page reading certified (sym c.in_ok-check_code.ensures.exact))),
    )
