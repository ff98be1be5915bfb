-- The tests pass exactly for certificates.
use Rattle.std.proofs.Common.{◌≡◌, ap, sym, subst, ◌∙◌}
use Rattle.std.specs.Prelude.{Result, Ok, Err}
use Rattle.vx_base.specs.Results.{◌>>=◌}
use Rattle.vx_base.proofs.Results.{bind_ok}
use Rattle.vx_plane.specs.Plane.{Page}
use Rattle.vx_grid.specs.declared.paper.Paper.{Paper}
use Rattle.vx_grid.specs.Paper.{last_row}
use Rattle.vx_grid.specs.Marks.{marks}
use Rattle.vx_mark_model.specs.Following.{Closes}
use Rattle.vx_mark_model.specs.Laws.{AcceptedAreFramed}
use Rattle.vx_margin.specs.Chains.{IsChain}
use Rattle.vx_code.specs.declared.code.PageCode.{PageCode}
use Rattle.vx_code.specs.Code.{version_of, CodesAreGivenBack}
use Rattle.vx_election_model.specs.declared.election.Election.{Election}
use Rattle.vx_layout.specs.declared.pages.PagePlan.{PagePlan}
use Rattle.vx_scan_model.specs.declared.reading.PageReading.{PageReading}
use Rattle.vx_scan_model.specs.Named.{named_plan, IsPrintedCode, CodesNamePrintedPages}
use Rattle.vx_scan_model.specs.Reading.{is_allowed}
use Rattle.vx_scan_model.specs.Certificate.{CertifiesUpright, PlacesAreTested}
use Rattle.vx_refusals.specs.declared.checking.CheckFault.{CheckFault}
use Rattle.vx_check.specs.Tests.{Tested, frame_tested, paper_tested, border_tested, code_tested, plan_tested, bubbles_tested, upright_tested}
use Rattle.vx_check.proofs.Orders.{both-passed, after-passed, passes-so, so-passes}
use Rattle.vx_check.proofs.Places.{allowed-small, paper-same, same-paper, IsTestedBorder, border-passed, border-passes}
use Rattle.vx_check.proofs.Codes.{code-read, plan-named, named-plan, bubbles-are, are-bubbles}

-- the laws that this stands on
pub record AreLaws : Type 0 where
  pub tests : PlacesAreTested
  pub framed : AcceptedAreFramed
  pub back : CodesAreGivenBack
  pub codes : CodesNamePrintedPages

pub laws-of : PlacesAreTested → AcceptedAreFramed → CodesAreGivenBack → CodesNamePrintedPages → AreLaws
laws-of tests framed back codes = record { tests = tests; framed = framed; back = back; codes = codes }

module _ (laws : AreLaws) (election : Election) (page : Page) (reading : PageReading) where
  -- the tests, from the last to the first
  abbrev from_plan : PagePlan → Tested
  from_plan plan = bubbles_tested election.thresholds page reading plan

  abbrev from_code : Tested
  from_code = plan_tested election reading.code >>= from_plan

  abbrev from_border : Tested
  from_border = code_tested page reading.border reading.code >>= (λ _. from_code)

  abbrev from_paper : Tested
  from_paper = border_tested page reading.border >>= (λ _. from_border)

  abbrev from_frame : Tested
  from_frame = paper_tested election.paper reading.border.paper >>= (λ _. from_paper)

  -- where the others pass, those of the bubbles are left
  pub bubbles-left : (plan : PagePlan) → frame_tested election.paper page ≡ Ok tt → paper_tested election.paper reading.border.paper ≡ Ok tt → border_tested page reading.border ≡ Ok tt
      → code_tested page reading.border reading.code ≡ Ok tt → plan_tested election reading.code ≡ Ok plan → upright_tested election page reading ≡ from_plan plan
  bubbles-left plan frame paper border code named =
      after-passed (frame_tested election.paper page) from_frame frame
      ∙ (after-passed (paper_tested election.paper reading.border.paper) from_paper paper
      ∙ (after-passed (border_tested page reading.border) from_border border
      ∙ (after-passed (code_tested page reading.border reading.code) from_code code
      ∙ ap (λ p. p >>= from_plan) named)))

  -- what passes is a certificate
  pub tested-certified : upright_tested election page reading ≡ Ok tt → CertifiesUpright election page reading
  tested-certified h =
      let frame = both-passed (frame_tested election.paper page) from_frame tt h in
      let paper = both-passed (paper_tested election.paper reading.border.paper) from_paper tt frame.1 in
      let border = both-passed (border_tested page reading.border) from_border tt paper.1 in
      let code = both-passed (code_tested page reading.border reading.code) from_code tt border.1 in
      let plan = bind_ok (plan_tested election reading.code) from_plan tt code.1 in
      let of_paper : reading.border.paper ≡ election.paper = paper-same election.paper reading.border.paper paper.0 in
      let is : IsTestedBorder page reading.border = border-passed laws.tests laws.framed page reading.border border.0 in
      let named = plan-named election reading.code plan.0 plan.1 in
      let printed : IsPrintedCode election reading.code plan.0 = laws.codes.printed election reading.code plan.0 named.1 named.0 in
      let bubbles = bubbles-are election.thresholds page reading plan.0 plan.2 in
      record {
        allowed = passes-so (is_allowed election.paper page) _ frame.0;
        of_paper = of_paper;
        start = is.start;
        chain = subst (λ (p : Paper). IsChain page (last_row p) (marks p) reading.border.places) of_paper is.chain;
        closes = subst (λ (p : Paper). Closes (last_row p) reading.border.places) of_paper is.closes;
        code = code-read page reading.border reading.code laws.back (named.0 ∙ ap version_of (sym of_paper)) code.0;
        printed = printed.printed;
        plan = plan.0;
        planned = printed.planned;
        code_is = printed.code_is;
        scores = bubbles.0;
        states = bubbles.1;
      }

  -- a certificate passes each test
  module _ (c : CertifiesUpright election page reading) where
    pub frame-passes : frame_tested election.paper page ≡ Ok tt
    frame-passes = so-passes (is_allowed election.paper page) _ c.allowed

    pub paper-passes : paper_tested election.paper reading.border.paper ≡ Ok tt
    paper-passes = same-paper election.paper reading.border.paper c.of_paper

    pub marks-pass : border_tested page reading.border ≡ Ok tt
    marks-pass =
        let small = allowed-small election.paper page c.allowed in
        border-passes laws.tests laws.framed page reading.border small.0 small.1 (record {
          start = c.start;
          chain = subst (λ (p : Paper). IsChain page (last_row p) (marks p) reading.border.places) (sym c.of_paper) c.chain;
          closes = subst (λ (p : Paper). Closes (last_row p) reading.border.places) (sym c.of_paper) c.closes;
        })

    pub plan-passes : plan_tested election reading.code ≡ Ok c.plan
    plan-passes =
        named-plan election reading.code c.plan (ap (λ (code : PageCode). code.version) c.code_is)
        (ap (named_plan election) c.code_is ∙ laws.codes.named election c.printed c.plan c.planned)

    -- so all pass, where the code does
    pub certified-tested : code_tested page reading.border reading.code ≡ Ok tt → upright_tested election page reading ≡ Ok tt
    certified-tested code =
        after-passed (frame_tested election.paper page) from_frame frame-passes
        ∙ (after-passed (paper_tested election.paper reading.border.paper) from_paper paper-passes
        ∙ (after-passed (border_tested page reading.border) from_border marks-pass
        ∙ (after-passed (code_tested page reading.border reading.code) from_code code
        ∙ (ap (λ p. p >>= from_plan) plan-passes
        ∙ are-bubbles election.thresholds page reading c.plan c.scores c.states))))

-- what has a fault doesn't pass
pub never-passes : {A : Type 0} (test : Result A CheckFault) (fault : CheckFault) (x : A) → test ≡ Err fault → test ≡ Ok x → ⊥
never-passes test fault x h e = fault_value fault x (sym h ∙ e)
  where
    fault_value : {A : Type 0} (fault : CheckFault) (x : A) → ◌≡◌ {A = Result A CheckFault} (Err fault) (Ok x) → ⊥
    fault_value fault x e = cc
