-- A scan that fits a printed page when it is turned isn't read as it lies, and is read turned.
use Rattle.std.proofs.Common.{◌≡◌, ◌⊎◌, inl, inr, ℕ, ◌+◌, ◌-◌, ◌*◌, ◌≤◌, ◌<◌, Bool, true, false, if◌then◌else◌, List, map, None, Result, Ok, Err, ℤ, pos, ◌-ℤ◌, ◌≤ℤ◌, ◌<ℤ◌, refl, ap, sym, subst, ◌∙◌, arith}
use Rattle.std.specs.Prelude.{slice_index}
use Rattle.std.specs.List.{range_with_len}
use Rattle.std.proofs.lemmas.Int.{ints, by_lt_z}
use Rattle.std.proofs.lemmas.Bool.Decides.{nat_tests}
use Rattle.std.proofs.lemmas.List.FromFn.{get_or-map-range_with_len, length-map-range_with_len}
use Rattle.std.proofs.lemmas.Bool.{true≢false}
use Rattle.vx_plane.specs.Plane.{Page, dark_at}
use Rattle.vx_plane.proofs.Pages.{dark_at-in_frame, dark_at-out_of_frame, rectangle-inside}
use Rattle.vx_grid.specs.declared.paper.Paper.{Paper}
use Rattle.vx_grid.specs.declared.paper.Paper.TheVariants.{Letter, Legal}
use Rattle.vx_grid.specs.declared.places.Point.{Point}
use Rattle.vx_grid.specs.Paper.{last_row}
use Rattle.vx_grid.specs.Grid.{first_code_row}
use Rattle.vx_grid.specs.Marks.{marks as marks_of, timing_marks}
use Rattle.vx_grid.specs.Borders.{MarkPlaces}
use Rattle.vx_grid.specs.Sizes as sizes
use Rattle.vx_grid.specs.Sizes.{zone_of, window_of}
use Rattle.vx_count.specs.Turned.{turned, turned_page, IsWhole}
use Rattle.vx_mark_model.specs.declared.fault.BorderFault.{BorderFault}
use Rattle.vx_mark_model.specs.Border.{IsBorder, IsBorderOf}
use Rattle.vx_fit.specs.Fit.{place_of}
use Rattle.vx_code.specs.Code.{boxes_of, place_of_box, reserved_place, bit_of}
use Rattle.vx_election_model.specs.declared.election.Election.{Election}
use Rattle.vx_election_model.specs.Valid.{IsValid}
use Rattle.vx_layout.specs.declared.pages.PagePlan.{PagePlan}
use Rattle.vx_layout.specs.Printed.{PrintedPage, code_of, KeepsClear}
use Rattle.vx_geom.specs.Slants.{Slant, slant_of}
use Rattle.vx_margin.specs.Flips.{flips_on, frame_of}
use Rattle.vx_margin.specs.Shown.{count_round, dark_round}
use Rattle.vx_grid.specs.Places.{point_at}
use Rattle.vx_grid.proofs.Papers.{last-row_low}
use Rattle.vx_mark_model.specs.Corner.{IsInCornerRegion}
use Rattle.vx_margin.specs.Chains.{IsChain, LieAtMarks}
use Rattle.vx_margin.specs.Turned.{IsTurned, slant_turned}
use Rattle.vx_scan_model.specs.declared.fault.PageFault.TheVariants.{FrameSize, Border, Code}
use Rattle.vx_scan_model.specs.Border.{border_of}
use Rattle.vx_scan_model.specs.Reading.{is_allowed, box_count_of, code_read, reading_of_code, reading_of_border, upright_reading_of, told_turned, either_way, reading_of}
use Rattle.vx_scan_model.specs.Fits.{FitsUpright, Fits, IsReadAs, IsReadUpright}
use Rattle.vx_scan_model.specs.Laws.{AreLaws, AreTurnedLaws}
use Rattle.vx_scan_model.proofs.Borders.{IsBorderOf-border_of}
use Rattle.vx_scan_model.proofs.Printed.{place-columns, place-rows}
use Rattle.vx_scan_model.proofs.Inks.{reserved-blank}
use Rattle.vx_scan_model.proofs.Read.{shows-border, upright-read}

-- a place of a frame, or one outside
by_frame : {P : Type 0} (w h : ℕ) (u v : ℤ) → (pos 0 ≤ℤ u → u <ℤ pos w → pos 0 ≤ℤ v → v <ℤ pos h → P) → ((u <ℤ pos 0) ⊎ (pos w ≤ℤ u) ⊎ (v <ℤ pos 0) ⊎ (pos h ≤ℤ v) → P) → P
by_frame w h u v inside outside =
    by_lt_z u (pos 0) (λ a. outside (inl a)) (λ a.
    by_lt_z u (pos w) (λ b. by_lt_z v (pos 0) (λ c. outside (inr (inr (inl c)))) (λ c.
    by_lt_z v (pos h) (λ d. inside a b c d) (λ d. outside (inr (inr (inr d))))))
    (λ b. outside (inr (inl b))))

-- outside the frame of a page that is made of its dark places all is light
light-outside : (page : Page) → IsWhole page → (u v : ℤ) → (u <ℤ pos 0) ⊎ (pos page.width ≤ℤ u) ⊎ (v <ℤ pos 0) ⊎ (pos page.height ≤ℤ v) → dark_at page u v ≡ false
light-outside page whole u v out =
    ap (λ (p : Page). dark_at p u v) whole ∙ dark_at-out_of_frame page.width page.height (dark_at page) u v out

pub dark-framed : (page : Page) → IsWhole page → (u v : ℤ) → dark_at page u v ≡ true → frame_of page u v ≡ true
dark-framed page whole u v dark =
    by_frame page.width page.height u v
    (λ a b c d. rectangle-inside (pos 0) (pos 0) page.width page.height u v a (omega (arith, ints, b)) c (omega (arith, ints, d)))
    (λ out. absurd (true≢false (sym dark ∙ light-outside page whole u v out)))

-- a page is its turned page, turned
pub is-turned : (page : Page) → IsWhole page → IsTurned page (turned_page page)
is-turned page whole = record {
  width = refl;
  height = refl;
  dark = λ u v.
      let w : ℤ = pos page.width -ℤ pos 1 in
      let h : ℤ = pos page.height -ℤ pos 1 in
      let back_u : w -ℤ (w -ℤ u) ≡ u = omega (arith, ints) in
      let back_v : h -ℤ (h -ℤ v) ≡ v = omega (arith, ints) in
      by_frame page.width page.height u v
      (λ a b c d.
      sym (dark_at-in_frame page.width page.height (turned page.width page.height (dark_at page)) (w -ℤ u) (h -ℤ v) (omega (arith, ints, b)) (omega (arith, ints, a)) (omega (arith, ints, d)) (omega (arith, ints, c))
      ∙ (ap (λ z. dark_at page z (h -ℤ (h -ℤ v))) back_u ∙ ap (λ z. dark_at page u z) back_v)))
      (λ out. light-outside page whole u v out
      ∙ sym (dark_at-out_of_frame page.width page.height (turned page.width page.height (dark_at page)) (w -ℤ u) (h -ℤ v) (over page.width page.height u v out)));
}
  where
    over : (w h : ℕ) (u v : ℤ) → (u <ℤ pos 0) ⊎ (pos w ≤ℤ u) ⊎ (v <ℤ pos 0) ⊎ (pos h ≤ℤ v)
        → (((pos w -ℤ pos 1) -ℤ u) <ℤ pos 0) ⊎ (pos w ≤ℤ ((pos w -ℤ pos 1) -ℤ u)) ⊎ (((pos h -ℤ pos 1) -ℤ v) <ℤ pos 0) ⊎ (pos h ≤ℤ ((pos h -ℤ pos 1) -ℤ v))
    over w h u v (inl a) = inr (inl (omega (arith, ints, a)))
    over w h u v (inr (inl a)) = inl (omega (arith, ints, a))
    over w h u v (inr (inr (inl a))) = inr (inr (inr (omega (arith, ints, a))))
    over w h u v (inr (inr (inr a))) = inr (inr (inl (omega (arith, ints, a))))

-- where a box stands, the turned page has a reserved zone
over-box : (paper : Paper) (n : ℕ) → n < 84 → (33 - (place_of_box paper n).0 ≡ (reserved_place (83 - n)).0) × (last_row paper - (place_of_box paper n).1 ≡ (reserved_place (83 - n)).1)
over-box paper n few = (omega arith, omega (arith, last-row_low paper))

-- the bounds of an allowed frame
allowed-bounds : (paper : Paper) (page : Page) → is_allowed paper page ≡ true → (page.width ≤ 2000) × (page.height ≤ 52 * last_row paper + 350)
allowed-bounds Letter page h = (grind (arith, nat_tests), grind (arith, nat_tests))
allowed-bounds Legal page h = (grind (arith, nat_tests), grind (arith, nat_tests))

-- two counts that are too low for a dark box are no bit
no-bit : (left right : ℕ) → left ≤ 120 → right ≤ 120 → bit_of left right ≡ None
no-bit left right low low_too = grind (arith, nat_tests)

-- an answer is a fault
pub record IsFault {A F : Type 0} (answer : Result A F) : Type 0 where
  pub fault : F
  pub is : answer ≡ Err fault

module _ (laws : AreLaws) (more : AreTurnedLaws) (election : Election) (valid : IsValid election) (scan : Page) (whole : IsWhole scan) (printed : PrintedPage) (plan : PagePlan) (marks : List Bool)
    (fits : FitsUpright election (turned_page scan) printed plan marks) where
  abbrev other : Page
  other = turned_page scan

  abbrev s : Slant
  s = slant_of fits.shear

  keeps : KeepsClear plan
  keeps = laws.clear election printed plan valid fits.planned

  of_paper : plan.paper ≡ election.paper
  of_paper = laws.paper election printed plan valid fits.planned

  -- places of the scan as it lies that lead from mark to mark are those of the turned page's marks
  pub chain-at_marks : (places : List Point) → IsChain scan (last_row plan.paper) (marks_of plan.paper) places → IsInCornerRegion (point_at places 0) → LieAtMarks (slant_turned plan.paper scan s) plan.paper (marks_of plan.paper) places
  chain-at_marks places chain in_region =
      let bounds = allowed-bounds plan.paper other fits.shows.allowed in
      more.at_marks s scan other plan.paper (timing_marks plan.paper) (marks_of plan.paper) places (is-turned scan whole)
      (shows-border laws election valid other printed plan marks fits) fits.start bounds.0 bounds.1 (omega arith) (omega arith) chain in_region

  -- so are those of a border
  at-marks : (places : List Point) → (let border : MarkPlaces = record { paper = plan.paper; places = places } in IsBorder plan.paper scan border) → LieAtMarks (slant_turned plan.paper scan s) plan.paper (marks_of plan.paper) places
  at-marks places border =
      chain-at_marks places (more.chains scan (last_row plan.paper) (marks_of plan.paper) places border.followed) border.followed.corner.in_region

  module _ (places : List Point) (near : LieAtMarks (slant_turned plan.paper scan s) plan.paper (marks_of plan.paper) places) where
    abbrev border : MarkPlaces
    border = record { paper = plan.paper; places = places }

    -- where the page code is looked for are the reserved rows of the turned page
    few-dark : (n : ℕ) → n < 84 → box_count_of scan border n ≤ 120
    few-dark n few =
        let c : ℕ = (place_of_box plan.paper n).0 in
        let r : ℕ = (place_of_box plan.paper n).1 in
        let columns = place-columns (first_code_row plan.paper) n few in
        let rows = place-rows (first_code_row plan.paper) n few in
        let over = over-box plan.paper n few in
        let m : ℕ = 83 - n in
        let Few : ℕ → ℕ → Type 0 = λ a b. count_round plan.paper (zone_of sizes.code_box) a b (flips_on s other fits.paper) ≤ 120 in
        let Blank : ℕ → ℕ → Type 0 = λ a b. count_round plan.paper (zone_of sizes.code_box) a b fits.paper ≡ 0 in
        let wrong : Few (33 - c) (last_row plan.paper - r) =
        subst (λ (b : ℕ). Few (33 - c) b) (sym over.1) (subst (λ (a : ℕ). Few a (reserved_place m).1) (sym over.0) (fits.shows.reserved m (omega arith))) in
        let blank : Blank (33 - c) (last_row plan.paper - r) =
        subst (λ (b : ℕ). Blank (33 - c) b) (sym over.1) (subst (λ (a : ℕ). Blank a (reserved_place m).1) (sym over.0)
        (reserved-blank laws.marks_are plan keeps (boxes_of (code_of election printed)) fits.paper fits.inked.printed m (omega arith) fits.inked.reserved)) in
        let most : dark_round scan (window_of sizes.code_box) (place_of border c r) ≤ count_round plan.paper (zone_of sizes.code_box) (33 - c) (last_row plan.paper - r) fits.paper + 120 =
        more.windows s scan other border fits.paper sizes.code_box c r 120 (is-turned scan whole) fits.shows.slant_is (dark-framed scan whole) near (omega arith) (omega arith)
        (omega (arith, columns.1)) (omega (arith, rows.1, last-row_low plan.paper)) wrong in
        omega (arith, most, blank)

    -- so no code is read there
    pub no-code : IsFault (code_read scan border)
    unfolding code_read
    no-code =
        let counts : List ℕ = map (box_count_of scan border) (range_with_len 0 84) in
        let left : slice_index counts 0 ≡ box_count_of scan border 0 = get_or-map-range_with_len (box_count_of scan border) 0 84 0 0 0 (omega arith) (omega arith) in
        let right : slice_index counts 1 ≡ box_count_of scan border 1 = get_or-map-range_with_len (box_count_of scan border) 0 84 1 1 0 (omega arith) (omega arith) in
        let none : bit_of (slice_index counts 0) (slice_index counts 1) ≡ None =
        no-bit (slice_index counts 0) (slice_index counts 1) (omega (arith, left, few-dark 0 (omega arith))) (omega (arith, right, few-dark 1 (omega arith))) in
        record { fault = _; is = more.no_bit plan.paper counts (length-map-range_with_len (box_count_of scan border) 0 84) none }

  by-border : (answer : Result MarkPlaces BorderFault) → IsBorderOf plan.paper scan answer → IsFault (reading_of_border election scan answer)
  by-border (Err fault) is = record { fault = Border fault; is = refl }
  by-border (Ok found) is =
      let same : found ≡ record { paper = plan.paper; places = found.places } = ap (λ p. let b : MarkPlaces = record { paper = p; places = found.places } in b) is.of_paper in
      let no = no-code found.places (at-marks found.places (subst (λ (b : MarkPlaces). IsBorder plan.paper scan b) same is)) in
      record {
        fault = Code no.fault;
        is = ap (λ (b : MarkPlaces). reading_of_code election scan b (code_read scan b)) same
            ∙ ap (reading_of_code election scan (record { paper = plan.paper; places = found.places })) no.is;
      }

  -- the scan isn't read as it lies
  pub upright-fault : IsFault (upright_reading_of election scan)
  unfolding upright_reading_of
  upright-fault =
      by_test (is_allowed election.paper scan) (subst (λ (p : Paper). IsFault (reading_of_border election scan (border_of p scan))) of_paper
      (by-border (border_of plan.paper scan) (IsBorderOf-border_of laws.corner laws.grows plan.paper scan)))
    where
      by_test : (test : Bool) → IsFault (reading_of_border election scan (border_of election.paper scan))
          → IsFault (if test then reading_of_border election scan (border_of election.paper scan) else Err (FrameSize scan.width scan.height))
      by_test true h = h
      by_test false h = record { fault = FrameSize scan.width scan.height; is = refl }

  -- and is read turned
  pub turned-read : IsReadAs election scan printed marks
  unfolding reading_of
  turned-read =
      let read : IsReadUpright election other printed marks = upright-read laws election valid other printed plan marks fits in
      let fault = upright-fault in
      record {
        reading = told_turned read.reading;
        is_read =
            ap (λ upright. either_way upright (upright_reading_of election other)) fault.is
            ∙ ap (either_way (Err fault.fault)) read.is_read;
        says = record { code_is = read.says.code_is; states_are = read.says.states_are };
      }

-- a scan that fits, as it lies or turned, is read
pub fits-read : AreLaws → AreTurnedLaws → (election : Election) → IsValid election → (scan : Page) → IsWhole scan → (printed : PrintedPage) (plan : PagePlan) (marks : List Bool)
    → Fits election scan printed plan marks → IsReadAs election scan printed marks
unfolding reading_of
fits-read laws more election valid scan whole printed plan marks (inl fits) =
    let read : IsReadUpright election scan printed marks = upright-read laws election valid scan printed plan marks fits in
    record {
      reading = read.reading;
      is_read = ap (λ upright. either_way upright (upright_reading_of election (turned_page scan))) read.is_read;
      says = read.says;
    }
fits-read laws more election valid scan whole printed plan marks (inr fits) = turned-read laws more election valid scan whole printed plan marks fits
