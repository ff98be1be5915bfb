-- What a scan is read as is a certificate of it, and what certificates say of a scan that fits a printed page.
use Rattle.std.proofs.Common.{◌≡◌, inl, inr, Bool, true, false, cond, List, map, Result, Ok, Err, refl, ap, sym, subst, ◌∙◌, arith}
use Rattle.std.specs.Prelude.{◌==◌}
use Rattle.std.specs.List.{range_with_len}
use Rattle.vx_base.specs.Results.{◌>>=◌}
use Rattle.vx_base.proofs.Numbers.{equal-from_yes}
use Rattle.vx_plane.specs.Plane.{Page, dark_at}
use Rattle.vx_plane.proofs.Pages.{page_of-dark_at}
use Rattle.vx_grid.specs.declared.paper.Paper.{Paper}
use Rattle.vx_grid.specs.Paper.{last_row}
use Rattle.vx_grid.specs.Marks.{marks as marks_of, timing_marks}
use Rattle.vx_grid.specs.Borders.{MarkPlaces}
use Rattle.vx_count.specs.Turned.{turned, turned_page, shown_page, IsWhole, TurnsBack}
use Rattle.vx_mark_model.specs.declared.fault.BorderFault.{BorderFault}
use Rattle.vx_mark_model.specs.Border.{IsBorder, IsBorderOf}
use Rattle.vx_mark_model.specs.Laws.{CornerIsFollowed, FollowedGrows}
use Rattle.vx_code.specs.declared.code.PageCode.{PageCode}
use Rattle.vx_code.specs.declared.code.CodeFault.{CodeFault}
use Rattle.vx_code.specs.declared.code.CodeFault.TheVariants.{BadVersion}
use Rattle.vx_code.specs.Code.{version_of, code_of_bits, code_of_shown, bits_shown_by, code_shown_by}
use Rattle.vx_election_model.specs.declared.election.Election.{Election}
use Rattle.vx_election_model.specs.Valid.{IsValid}
use Rattle.vx_layout.specs.declared.pages.PagePlan.{PagePlan}
use Rattle.vx_layout.specs.Printed.{PrintedPage, code_of}
use Rattle.vx_geom.specs.Slants.{slant_of}
use Rattle.vx_margin.specs.Chains.{IsChain, LieAtMarks}
use Rattle.vx_margin.specs.Laws.{CornerChainsLieAtMarks, FollowedAreChains}
use Rattle.vx_scan_model.specs.declared.reading.PageReading.{PageReading}
use Rattle.vx_scan_model.specs.declared.fault.PageFault.{PageFault}
use Rattle.vx_scan_model.specs.declared.fault.PageFault.TheVariants.{FrameSize}
use Rattle.vx_scan_model.specs.Border.{border_of}
use Rattle.vx_scan_model.specs.Named.{named_plan, IsPrintedCode}
use Rattle.vx_scan_model.specs.Reading.{is_allowed, box_count_of, code_read, scores_of, states_of, reading_on, reading_of_code, reading_of_border, upright_reading_of, told_turned, either_way, reading_of}
use Rattle.vx_scan_model.specs.Fits.{FitsUpright, Fits, state_of_mark, Says}
use Rattle.vx_scan_model.specs.Laws.{AreLaws, AreTurnedLaws}
use Rattle.vx_scan_model.specs.Certificate.{CertifiesUpright, Certifies, ReadingsAreCertificates, CertificatesSayWhatFits, TurnedPagesAreNotCertified}
use Rattle.vx_scan_model.proofs.Borders.{IsBorderOf-border_of}
use Rattle.vx_scan_model.proofs.Plans.{named-printed, planned-named}
use Rattle.vx_scan_model.proofs.Read.{shows-border, code-at, states-at}
use Rattle.vx_scan_model.proofs.TurnedRead.{chain-at_marks, no-code}
use Rattle.vx_scan_model.proofs.Once.{same-reading}

same-code : (a b : PageCode) → ◌≡◌ {A = Result PageCode CodeFault} (Ok a) (Ok b) → a ≡ b
same-code a b e = cc

same-plan : (a b : PagePlan) → ◌≡◌ {A = Result PagePlan PageFault} (Ok a) (Ok b) → a ≡ b
same-plan a b e = cc

no-fault : (code : PageCode) (fault : CodeFault) → ◌≡◌ {A = Result PageCode CodeFault} (Ok code) (Err fault) → ⊥
no-fault code fault e = cc

-- a code that is read has the version of the border's paper
kept-version : (test : Bool) (found code : PageCode) → ◌≡◌ {A = Result PageCode CodeFault} (cond test (Ok found) (Err (BadVersion found.version))) (Ok code) → (test ≡ true) × (found ≡ code)
kept-version true found code h = (refl, same-code found code h)
kept-version false found code h = absurd (cc)

shown-version : (paper : Paper) (bits : Result (List Bool) CodeFault) (code : PageCode) → code_of_shown paper bits ≡ Ok code → code.version ≡ version_of paper
shown-version paper (Err fault) code h = absurd (cc)
shown-version paper (Ok bits) code h =
    let found : PageCode = code_of_bits bits in
    let parts = kept-version (found.version == version_of paper) found code h in
    let version : found.version ≡ version_of paper = equal-from_yes found.version (version_of paper) parts.0 in
    subst (λ (c : PageCode). c.version ≡ version_of paper) parts.1 version

read-version : (scan : Page) (border : MarkPlaces) (code : PageCode) → code_read scan border ≡ Ok code → code.version ≡ version_of border.paper
unfolding code_read code_shown_by
read-version scan border code h = shown-version border.paper (bits_shown_by (map (box_count_of scan border) (range_with_len 0 84))) code h

-- a scan that is read as it lies
record IsReadSo (election : Election) (scan : Page) (reading : PageReading) : Type 0 where
  allowed : is_allowed election.paper scan ≡ true
  border : MarkPlaces
  border_is : border_of election.paper scan ≡ Ok border
  code : PageCode
  code_is : code_read scan border ≡ Ok code
  plan : PagePlan
  named : named_plan election code ≡ Ok plan
  reading_is : reading ≡ reading_on election scan border code plan

module _ (election : Election) (scan : Page) (reading : PageReading) where
  by-plan : (border : MarkPlaces) (code : PageCode) (named : Result PagePlan PageFault) → named_plan election code ≡ named
      → (named >>= (λ plan. Ok (reading_on election scan border code plan))) ≡ Ok reading
      → (plan : PagePlan) × (named_plan election code ≡ Ok plan) × (reading ≡ reading_on election scan border code plan)
  by-plan border code (Err fault) is h = absurd (cc)
  by-plan border code (Ok plan) is h = (plan, is, sym (same-reading (reading_on election scan border code plan) reading h))

  by-code : is_allowed election.paper scan ≡ true → (border : MarkPlaces) → border_of election.paper scan ≡ Ok border → (code : Result PageCode CodeFault) → code_read scan border ≡ code
      → reading_of_code election scan border code ≡ Ok reading → IsReadSo election scan reading
  by-code allowed border border_is (Err fault) is h = absurd (cc)
  by-code allowed border border_is (Ok code) is h =
      let planned = by-plan border code (named_plan election code) refl h in
      record { allowed = allowed; border = border; border_is = border_is; code = code; code_is = is; plan = planned.0; named = planned.1; reading_is = planned.2 }

  by-border : is_allowed election.paper scan ≡ true → (border : Result MarkPlaces BorderFault) → border_of election.paper scan ≡ border
      → reading_of_border election scan border ≡ Ok reading → IsReadSo election scan reading
  by-border allowed (Err fault) is h = absurd (cc)
  by-border allowed (Ok border) is h = by-code allowed border is (code_read scan border) refl h

  by-frame : (test : Bool) → is_allowed election.paper scan ≡ test
      → cond test (reading_of_border election scan (border_of election.paper scan)) (Err (FrameSize scan.width scan.height)) ≡ Ok reading → IsReadSo election scan reading
  by-frame true is h = by-border is (border_of election.paper scan) refl h
  by-frame false is h = absurd (cc)

  read-so : upright_reading_of election scan ≡ Ok reading → IsReadSo election scan reading
  unfolding upright_reading_of
  read-so h = by-frame (is_allowed election.paper scan) refl h

-- the laws that readings stand on
pub record AreReadingLaws : Type 0 where
  pub corner : CornerIsFollowed
  pub grows : FollowedGrows
  pub chains : FollowedAreChains

module _ (laws : AreReadingLaws) (election : Election) where
  module _ (scan : Page) (reading : PageReading) (so : IsReadSo election scan reading) where
    found : IsBorder election.paper scan so.border
    found = subst (IsBorderOf election.paper scan) so.border_is (IsBorderOf-border_of laws.corner laws.grows election.paper scan)

    is-printed : IsPrintedCode election so.code so.plan
    is-printed = named-printed election so.code so.plan so.named (read-version scan so.border so.code so.code_is ∙ ap version_of found.of_paper)

    so-certified : CertifiesUpright election scan (reading_on election scan so.border so.code so.plan)
    so-certified = record {
      allowed = so.allowed;
      of_paper = found.of_paper;
      start = found.followed.corner.in_region;
      chain = laws.chains scan (last_row election.paper) (marks_of election.paper) so.border.places found.followed;
      closes = found.closes;
      code = so.code_is;
      printed = is-printed.printed;
      plan = so.plan;
      planned = is-printed.planned;
      code_is = is-printed.code_is;
      scores = refl;
      states = refl;
    }

    upright-certified : CertifiesUpright election scan reading
    upright-certified = subst (CertifiesUpright election scan) (sym so.reading_is) so-certified

    not-turned : reading.turned ≡ false
    not-turned = ap (λ (r : PageReading). r.turned) so.reading_is

  -- a certificate that is told as one of a turned scan
  told-certified : (scan : Page) (reading : PageReading) → CertifiesUpright election scan reading → CertifiesUpright election scan (told_turned reading)
  told-certified scan reading c = record {
    allowed = c.allowed;
    of_paper = c.of_paper;
    start = c.start;
    chain = c.chain;
    closes = c.closes;
    code = c.code;
    printed = c.printed;
    plan = c.plan;
    planned = c.planned;
    code_is = c.code_is;
    scores = c.scores;
    states = c.states;
  }

  by-way : (scan : Page) (reading : PageReading) (upright over : Result PageReading PageFault) → upright_reading_of election scan ≡ upright → upright_reading_of election (turned_page scan) ≡ over
      → either_way upright over ≡ Ok reading → Certifies election scan reading
  by-way scan reading (Ok read) over is is_over h =
      let so = read-so election scan read is in
      let Certified : Bool → Type 0 = λ t. CertifiesUpright election (shown_page t scan) read in
      subst (Certifies election scan) (same-reading read reading h) (subst Certified (sym (not-turned scan read so)) (upright-certified scan read so))
  by-way scan reading (Err fault) (Ok read) is is_over h =
      let so = read-so election (turned_page scan) read is_over in
      subst (Certifies election scan) (same-reading (told_turned read) reading h) (told-certified (turned_page scan) read (upright-certified (turned_page scan) read so))
  by-way scan reading (Err fault) (Err other) is is_over h = absurd (cc)

-- what a scan is read as is a certificate of it
pub readings-certified : AreReadingLaws → ReadingsAreCertificates
unfolding reading_of
readings-certified laws election scan reading valid h =
    by-way laws election scan reading (upright_reading_of election scan) (upright_reading_of election (turned_page scan)) refl refl h

-- a certificate of a scan that fits as it lies
module _ (laws : AreLaws) (corners : CornerChainsLieAtMarks) (election : Election) (valid : IsValid election) (scan : Page) (printed : PrintedPage) (plan : PagePlan) (marks : List Bool)
    (fits : FitsUpright election scan printed plan marks) (reading : PageReading) (certified : CertifiesUpright election scan reading) where
  of_paper : plan.paper ≡ election.paper
  of_paper = laws.paper election printed plan valid fits.planned

  chain : IsChain scan (last_row plan.paper) (marks_of plan.paper) reading.border.places
  chain = subst (λ (p : Paper). IsChain scan (last_row p) (marks_of p) reading.border.places) (sym of_paper) certified.chain

  near : LieAtMarks (slant_of fits.shear) plan.paper (marks_of plan.paper) reading.border.places
  near =
      corners (slant_of fits.shear) scan plan.paper (timing_marks plan.paper) (marks_of plan.paper) reading.border.places
      (shows-border laws election valid scan printed plan marks fits) fits.start (omega arith) (omega arith) chain certified.start

  abbrev border : MarkPlaces
  border = record { paper = plan.paper; places = reading.border.places }

  border-is : reading.border ≡ border
  border-is = ap (λ p. let b : MarkPlaces = record { paper = p; places = reading.border.places } in b) (certified.of_paper ∙ sym of_paper)

  code-said : reading.code ≡ code_of election printed
  code-said =
      same-code reading.code (code_of election printed)
      (sym certified.code ∙ (ap (code_read scan) border-is ∙ code-at laws election valid scan printed plan marks fits reading.border.places near))

  plan-said : certified.plan ≡ plan
  plan-said =
      same-plan certified.plan plan
      (sym (planned-named election certified.printed certified.plan certified.planned)
      ∙ (ap (named_plan election) (sym certified.code_is ∙ code-said) ∙ planned-named election printed plan fits.planned))

  states-said : reading.states ≡ map state_of_mark marks
  states-said =
      certified.states
      ∙ (ap (states_of election.thresholds) (certified.scores ∙ (ap (λ (b : MarkPlaces). scores_of scan b certified.plan.bubbles) border-is ∙ ap (λ (p : PagePlan). scores_of scan border p.bubbles) plan-said))
      ∙ states-at laws election valid scan printed plan marks fits reading.border.places near)

  upright-says : Says election printed marks reading
  upright-says = record { code_is = code-said; states_are = states-said }

-- there is no certificate as it lies of a scan that fits turned
module _ (laws : AreLaws) (more : AreTurnedLaws) (election : Election) (valid : IsValid election) (scan : Page) (whole : IsWhole scan) (printed : PrintedPage) (plan : PagePlan) (marks : List Bool)
    (fits : FitsUpright election (turned_page scan) printed plan marks) (reading : PageReading) (certified : CertifiesUpright election scan reading) where
  of_paper_too : plan.paper ≡ election.paper
  of_paper_too = laws.paper election printed plan valid fits.planned

  border-is_too : reading.border ≡ (let b : MarkPlaces = record { paper = plan.paper; places = reading.border.places } in b)
  border-is_too = ap (λ p. let b : MarkPlaces = record { paper = p; places = reading.border.places } in b) (certified.of_paper ∙ sym of_paper_too)

  no-certificate : ⊥
  no-certificate =
      let chain_too : IsChain scan (last_row plan.paper) (marks_of plan.paper) reading.border.places =
      subst (λ (p : Paper). IsChain scan (last_row p) (marks_of p) reading.border.places) (sym of_paper_too) certified.chain in
      let near_too = chain-at_marks laws more election valid scan whole printed plan marks fits reading.border.places chain_too certified.start in
      let none = no-code laws more election valid scan whole printed plan marks fits reading.border.places near_too in
      no-fault reading.code none.fault (sym certified.code ∙ (ap (code_read scan) border-is_too ∙ none.is))

pub turned-uncertified : AreLaws → AreTurnedLaws → TurnedPagesAreNotCertified
turned-uncertified laws more election scan printed plan marks reading valid whole fits certified =
    no-certificate laws more election valid scan whole printed plan marks fits reading certified

-- so every certificate says what fits
pub certificates-say : AreLaws → AreTurnedLaws → CornerChainsLieAtMarks → TurnsBack → CertificatesSayWhatFits
certificates-say laws more corners back election scan reading valid whole certified printed plan marks fits = by_turn reading.turned certified fits
  where
    whole_turned : IsWhole (turned_page scan)
    whole_turned = sym (page_of-dark_at scan.width scan.height (turned scan.width scan.height (dark_at scan)))

    by_turn : (over : Bool) → CertifiesUpright election (shown_page over scan) reading → Fits election scan printed plan marks → Says election printed marks reading
    by_turn false c (inl f) = upright-says laws corners election valid scan printed plan marks f reading c
    by_turn false c (inr f) = absurd (turned-uncertified laws more election scan printed plan marks reading valid whole f c)
    by_turn true c (inl f) =
        absurd (turned-uncertified laws more election (turned_page scan) printed plan marks reading valid whole_turned
        (subst (λ (p : Page). FitsUpright election p printed plan marks) (sym (back scan whole)) f) c)
    by_turn true c (inr f) = upright-says laws corners election valid (turned_page scan) printed plan marks f reading c
