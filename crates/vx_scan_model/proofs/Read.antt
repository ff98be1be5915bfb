-- A scan that fits a printed page is read as that page.
use Rattle.std.proofs.Common.{◌≡◌, ℕ, ◌-◌, ◌≤◌, ◌<◌, Bool, true, false, not, ◌&&◌, nat_le, nat_lt, if◌then◌else◌, List, map, length, Ok, Err, ℤ, pos, ◌-ℤ◌, refl, ap, sym, subst, ◌∙◌, le_trans, arith}
use Rattle.std.specs.Prelude.{slice_index_or, slice_get, None, ◌==◌}
use Rattle.std.specs.List.{range_with_len}
use Rattle.std.proofs.lemmas.Bool.Decides.{nat_tests}
use Rattle.std.proofs.lemmas.List.{ext_get_or, get_or-map, length-map}
use Rattle.std.proofs.lemmas.List.FromFn.{get_or-map-range_with_len, length-map-range_with_len}
use Rattle.std.proofs.lemmas.Bool.{and_parts}
use Rattle.vx_plane.specs.Plane.{Pixels, Page, rectangle, dark_at}
use Rattle.vx_plane.proofs.Counts.{count_in-le}
use Rattle.vx_grid.specs.declared.paper.Paper.{Paper}
use Rattle.vx_grid.specs.declared.places.Point.{Point}
use Rattle.vx_grid.specs.declared.state.State.{State}
use Rattle.vx_grid.specs.declared.state.State.TheVariants.{Marked, Clear}
use Rattle.vx_grid.specs.declared.state.Thresholds.{Thresholds}
use Rattle.vx_grid.specs.Marks.{marks as marks_of, timing_marks}
use Rattle.vx_grid.specs.Borders.{MarkPlaces}
use Rattle.vx_grid.specs.Regions.{frame_zone}
use Rattle.vx_score.specs.Score.{state_of}
use Rattle.vx_code.specs.declared.code.PageCode.{PageCode}
use Rattle.vx_code.specs.Code.{tag_of, boxes_of, version_of, IsShown, Shows}
use Rattle.vx_election_model.specs.declared.election.Election.{Election}
use Rattle.vx_election_model.specs.Valid.{IsValid}
use Rattle.vx_layout.specs.declared.pages.PagePlan.{PagePlan}
use Rattle.vx_layout.specs.Plan.{plan_of}
use Rattle.vx_layout.specs.Printed.{PrintedPage, code_of, print_of_page, KeepsClear}
use Rattle.vx_geom.specs.Slants.{Slant, slant_of}
use Rattle.vx_geom.specs.Seen.{seen}
use Rattle.vx_margin.specs.Flips.{flips, flips_in, differ}
use Rattle.vx_margin.specs.Shown.{ShowsMarks, ShowsBorder}
use Rattle.vx_margin.specs.Chains.{LieAtMarks}
use Rattle.vx_margin.specs.Laws.{FindsBorder}
use Rattle.vx_scan_model.specs.declared.fault.PageFault.TheVariants.{FrameSize, OtherElection}
use Rattle.vx_base.specs.Results.{◌>>=◌}
use Rattle.vx_base.proofs.Numbers.{equal-yes, equal-no}
use Rattle.vx_base.proofs.Booleans.{and-both}
use Rattle.vx_scan_model.specs.Border.{border_of}
use Rattle.vx_scan_model.specs.Named.{named_plan, plan_on_card, plan_unless}
use Rattle.vx_scan_model.specs.Reading.{is_allowed, box_count_of, code_read, bubble_score, scores_of, states_of, reading_on, reading_of_code, reading_of_border, upright_reading_of}
use Rattle.vx_scan_model.specs.Ink.{bubble_at}
use Rattle.vx_scan_model.specs.Fits.{FitsUpright, state_of_mark, IsReadUpright}
use Rattle.vx_scan_model.specs.Counted.{CountsTell}
use Rattle.vx_scan_model.specs.Laws.{AreLaws}
use Rattle.vx_scan_model.proofs.Borders.{IsBorderOf-border_of}
use Rattle.vx_scan_model.proofs.Printed.{frame-printed}
use Rattle.vx_scan_model.proofs.Counted.{shown-counted}
use Rattle.vx_scan_model.proofs.Found.{IsFoundNear, found-near}

-- a place of the paper in the frame zone has what is printed there
as-printed : (print paper : Bool) → (print ≡ true → paper ≡ true) → ((paper && not print) ≡ true → ⊥) → paper ≡ print
as-printed true paper h n = h refl
as-printed false true h n = absurd (n refl)
as-printed false false h n = refl

flips-same : (s : Slant) (scan : Page) (a b : Pixels) (u v : ℤ) → seen s a u v ≡ seen s b u v → flips s scan a u v ≡ flips s scan b u v
unfolding flips
flips-same s scan a b u v e = ap (λ t. rectangle (pos 0) (pos 0) scan.width scan.height u v && differ (dark_at scan u v) t) e

marked-state : (score : ℕ) (thresholds : Thresholds) → thresholds.def ≤ score → state_of score thresholds ≡ Marked
marked-state score thresholds high =
    let test : nat_le thresholds.def score ≡ true = grind (arith, nat_tests) in
    rw test refl

clear-state : (score : ℕ) (thresholds : Thresholds) → thresholds.marg < thresholds.def → score < thresholds.marg → state_of score thresholds ≡ Clear
clear-state score thresholds order low =
    let first : nat_le thresholds.def score ≡ false = grind (arith, nat_tests) in
    let second : nat_lt score thresholds.marg ≡ true = grind (arith, nat_tests) in
    rw first (rw second refl)

module _ (laws : AreLaws) (election : Election) (valid : IsValid election) (scan : Page) (printed : PrintedPage) (plan : PagePlan) (marks : List Bool) (fits : FitsUpright election scan printed plan marks) where
  abbrev s : Slant
  s = slant_of fits.shear

  abbrev boxes : List Bool
  boxes = boxes_of (code_of election printed)

  abbrev print : Pixels
  print = print_of_page election plan printed

  keeps : KeepsClear plan
  keeps = laws.clear election printed plan valid fits.planned

  of_paper : plan.paper ≡ election.paper
  of_paper = laws.paper election printed plan valid fits.planned

  -- in the frame zone the paper has the timing marks
  frame-paper : (x y : ℤ) → frame_zone plan.paper x y ≡ true → fits.paper x y ≡ timing_marks plan.paper x y
  frame-paper x y zone =
      as-printed (print x y) (fits.paper x y) (fits.inked.printed x y) (λ h. fits.inked.frame.apart x y h zone)
      ∙ frame-printed laws.marks_are plan keeps boxes x y zone

  shows-marks : ShowsMarks s scan plan.paper (timing_marks plan.paper)
  shows-marks = record {
    few = λ p framed.
        le_trans
        (count_in-le (p.u -ℤ pos 23) (p.v -ℤ pos 11) 46 22 (flips_in s scan (timing_marks plan.paper) (frame_zone plan.paper)) (flips_in s scan fits.paper (frame_zone plan.paper))
        (λ u v a b c d h.
        let parts = and_parts (seen s (frame_zone plan.paper) u v) (flips s scan (timing_marks plan.paper) u v) h in
        and-both (seen s (frame_zone plan.paper) u v) (flips s scan fits.paper u v) parts.0
        (flips-same s scan fits.paper (timing_marks plan.paper) u v (frame-paper _ _ parts.0) ∙ parts.1)))
        (fits.shows.few p framed);
  }

  pub shows-border : ShowsBorder s scan plan.paper (timing_marks plan.paper)
  shows-border = record { slant_is = fits.shows.slant_is; marks_are = laws.marks_are plan.paper; shows = shows-marks; in_frame = fits.shows.marks }

  finds : FindsBorder s scan plan.paper
  finds = laws.found s scan plan.paper (timing_marks plan.paper) shows-border fits.start

  pub border-found : IsFoundNear s plan.paper (border_of plan.paper scan)
  border-found = found-near s scan plan.paper finds (border_of plan.paper scan) (IsBorderOf-border_of laws.corner laws.grows plan.paper scan)

  -- at any places that lie at the marks
  module _ (places : List Point) (near : LieAtMarks s plan.paper (marks_of plan.paper) places) where
    abbrev border : MarkPlaces
    border = record { paper = plan.paper; places = places }

    counts : CountsTell election scan border plan boxes marks
    counts = shown-counted laws election scan printed plan marks s fits.paper places valid fits.planned fits.inked fits.shows near

    box-shown : (n : ℕ) → n < 84 → (is : Bool) → slice_index_or boxes n false ≡ is → IsShown is (box_count_of scan border n)
    box-shown n few true is = omega (arith, counts.printed n few is)
    box-shown n few false is = omega (arith, counts.blank n few is)

    counts-show : Shows (map (box_count_of scan border) (range_with_len 0 84)) boxes
    counts-show = record {
      each = λ n few.
          subst (IsShown (slice_index_or boxes n false)) (sym (get_or-map-range_with_len (box_count_of scan border) 0 84 n n 0 few (omega arith))) (box-shown n few (slice_index_or boxes n false) refl);
    }

    -- the code is read
    pub code-at : code_read scan border ≡ Ok (code_of election printed)
    unfolding code_read
    code-at =
        let code = laws.codes election printed plan valid fits.planned in
        laws.given_back plan.paper (map (box_count_of scan border) (range_with_len 0 84)) (code_of election printed)
        (length-map-range_with_len (box_count_of scan border) 0 84) code.1 (ap version_of (sym of_paper)) counts-show

    scored : (n : ℕ) → n < length plan.bubbles → (mark : Bool) → slice_index_or marks n false ≡ mark
        → state_of (bubble_score scan border (bubble_at plan n)) election.thresholds ≡ state_of_mark mark
    scored n few true is = marked-state (bubble_score scan border (bubble_at plan n)) election.thresholds (counts.marked n few is)
    scored n few false is =
        clear-state (bubble_score scan border (bubble_at plan n)) election.thresholds valid.thresholds.order (omega (arith, counts.clear n few is))

    -- the states are those of the marks
    pub states-at : states_of election.thresholds (scores_of scan border plan.bubbles) ≡ map state_of_mark marks
    states-at =
        let scores : List ℕ = scores_of scan border plan.bubbles in
        let states : List State = states_of election.thresholds scores in
        let many_scores : length scores ≡ length plan.bubbles = length-map plan.bubbles (bubble_score scan border) in
        let many_states : length states ≡ length scores = length-map scores (λ score. state_of score election.thresholds) in
        let many_marks : length (map state_of_mark marks) ≡ length marks = length-map marks state_of_mark in
        ext_get_or Clear states (map state_of_mark marks) (many_states ∙ many_scores ∙ sym fits.inked.all ∙ sym many_marks)
        (λ n within.
        let in_scores : n < length scores = omega (arith, within, many_states) in
        let few : n < length plan.bubbles = omega (arith, in_scores, many_scores) in
        let in_marks : n < length marks = omega (arith, few, fits.inked.all) in
        get_or-map (λ score. state_of score election.thresholds) scores n 0 Clear in_scores
        ∙ (ap (λ score. state_of score election.thresholds) (get_or-map (bubble_score scan border) plan.bubbles n (record { contest = 0; option = 0; col = 0; row = 0 }) 0 few)
        ∙ (scored n few (slice_index_or marks n false) refl
        ∙ sym (get_or-map state_of_mark marks n false Clear in_marks))))

  -- the code of a printed page names its plan
  named : named_plan election (code_of election printed) ≡ Ok plan
  unfolding named_plan
  named =
      let card : plan_of election printed.card ≡ Ok fits.planned.card = fits.planned.card_is in
      let tag : (tag_of election.digest == tag_of election.digest) ≡ true = equal-yes _ _ refl in
      let page : (printed.page == 0) ≡ false = (let one : 1 ≤ printed.page = fits.planned.from_one in equal-no printed.page 0 (λ none. absurd (omega (arith, one, none)))) in
      ap (λ t. if t then plan_on_card (code_of election printed) (plan_of election printed.card) else Err (OtherElection (tag_of election.digest))) tag
      ∙ (ap (plan_on_card (code_of election printed)) card
      ∙ (ap (λ t. plan_unless printed.page (if t then None else slice_get fits.planned.card.pages (printed.page - 1))) page
      ∙ ap (plan_unless printed.page) fits.planned.page_is))

  -- the scan is read, as it lies
  pub upright-read : IsReadUpright election scan printed marks
  unfolding upright_reading_of
  upright-read =
      let places : List Point = border-found.places in
      let near : LieAtMarks s plan.paper (marks_of plan.paper) places = border-found.near in
      let found : MarkPlaces = record { paper = plan.paper; places = places } in
      let code : PageCode = code_of election printed in
      let allowed : is_allowed election.paper scan ≡ true = subst (λ (p : Paper). is_allowed p scan ≡ true) of_paper fits.shows.allowed in
      let is : border_of election.paper scan ≡ Ok found = subst (λ (p : Paper). border_of p scan ≡ Ok found) of_paper border-found.is in
      record {
        reading = reading_on election scan found code plan;
        is_read =
            ap (λ t. if t then reading_of_border election scan (border_of election.paper scan) else Err (FrameSize scan.width scan.height)) allowed
            ∙ (ap (reading_of_border election scan) is
            ∙ (ap (reading_of_code election scan found) (code-at places near)
            ∙ ap (λ p. p >>= (λ (q : PagePlan). Ok (reading_on election scan found code q))) named));
        says = record { code_is = refl; states_are = states-at places near };
      }
