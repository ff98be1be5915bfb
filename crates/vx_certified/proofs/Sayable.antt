-- What a scan is read as can be said: its numbers fit the grammar of readings.
use Rattle.std.proofs.Common.{◌≡◌, ◌-◌, ◌^◌, ◌<◌, ◌≤◌, ℕ, zero, suc, Bool, true, false, cond, List, [], ◌∷◌, length, pos, All, arith, refl, sym, ap, subst, ◌∙◌}
use Rattle.std.specs.Prelude.{slice_get, slice_index, slice_index_or, Some, Result, Ok, Err}
use Rattle.std.proofs.lemmas.Bool.Decides.{nat_tests}
use Rattle.std.proofs.lemmas.List.{length-map}
use Rattle.std.proofs.lemmas.List.Elements.{All-head, All-tail}
use Rattle.std.proofs.lemmas.Option.{get_or_from_slice_get, slice_get_within}
use Rattle.vx_base.specs.Results.{◌>>=◌}
use Rattle.vx_plane.specs.Plane.{Page, dark_at}
use Rattle.vx_plane.proofs.Counts.{count_in-le_area}
use Rattle.vx_grid.specs.declared.paper.Paper.{Paper}
use Rattle.vx_grid.specs.declared.paper.Paper.TheVariants.{Letter, Legal}
use Rattle.vx_grid.specs.declared.places.Point.{Point}
use Rattle.vx_grid.specs.Marks.{marks}
use Rattle.vx_grid.specs.Borders.{MarkPlaces}
use Rattle.vx_grid.specs.Places.{IsPointWithin, AreWithin, point_at, bubble_window_of}
use Rattle.vx_count.specs.Turned.{turned_page, shown_page}
use Rattle.vx_mark_model.specs.declared.fault.BorderFault.{BorderFault}
use Rattle.vx_mark_model.specs.Border.{IsBorderOf}
use Rattle.vx_mark_model.specs.Laws.{AcceptedAreFramed}
use Rattle.vx_code.specs.declared.code.PageCode.{PageCode}
use Rattle.vx_code.specs.declared.code.CodeFault.{CodeFault}
use Rattle.vx_code.specs.Code.{tag_of}
use Rattle.vx_fit.specs.Fit.{place_of}
use Rattle.vx_election_model.specs.declared.contest.Contest.{Contest}
use Rattle.vx_election_model.specs.declared.election.Election.{Election}
use Rattle.vx_election_model.specs.Options.{options_of}
use Rattle.vx_election_model.specs.Valid.{IsValid, IsContest, HasChoices}
use Rattle.vx_layout.specs.declared.bubbles.Bubble.{Bubble}
use Rattle.vx_layout.specs.declared.pages.PagePlan.{PagePlan}
use Rattle.vx_layout.specs.Flow.{no_contest, contest_at}
use Rattle.vx_layout.specs.Pages.{NamesOption, PlansStandOnGrid}
use Rattle.vx_layout.specs.Printed.{PrintedHaveCodes}
use Rattle.vx_scan_model.specs.declared.fault.PageFault.{PageFault}
use Rattle.vx_scan_model.specs.declared.reading.PageReading.{PageReading}
use Rattle.vx_scan_model.specs.Border.{border_of, EachScanHasItsBorder}
use Rattle.vx_scan_model.specs.Named.{named_plan, NamedStandOnGrid, CodesNamePrintedPages}
use Rattle.vx_scan_model.specs.Reading.{is_allowed, code_read, bubble_score, scores_of, reading_on, reading_of_code, reading_of_border, upright_reading_of, told_turned, either_way, reading_of}
use Rattle.vx_scan_model.specs.Certificate.{CertifiesUpright, ReadingsAreCertificates}
use Rattle.vx_readings.specs.Laws.{IsNameable, IsSayable}
use Rattle.vx_readings.specs.ReadingText.{no_bubble, bubbles_on}

-- the border of a reading has a place for each mark
module _ (each : EachScanHasItsBorder) (election : Election) where
  same-reading : (a b : PageReading) → ◌≡◌ {A = Result PageReading PageFault} (Ok a) (Ok b) → a ≡ b
  same-reading a b e = cc

  border-same : (a b : PageReading) → ◌≡◌ {A = Result PageReading PageFault} (Ok a) (Ok b) → b.border ≡ a.border
  border-same a b e = ap (λ (r : PageReading). r.border) (sym (same-reading a b e))

  module _ (page : Page) where
    by-plan : (border : MarkPlaces) (code : PageCode) (named : Result PagePlan PageFault) (reading : PageReading)
        → (named >>= (λ plan. Ok (reading_on election page border code plan))) ≡ Ok reading → reading.border ≡ border
    by-plan border code (Ok plan) reading h = border-same (reading_on election page border code plan) reading h
    by-plan border code (Err fault) reading h = absurd cc

    by-code : (border : MarkPlaces) (read : Result PageCode CodeFault) (reading : PageReading)
        → reading_of_code election page border read ≡ Ok reading → reading.border ≡ border
    by-code border (Ok code) reading h = by-plan border code (named_plan election code) reading h
    by-code border (Err fault) reading h = absurd cc

    by-border : (found : Result MarkPlaces BorderFault) (reading : PageReading) → IsBorderOf election.paper page found
        → reading_of_border election page found ≡ Ok reading → length reading.border.places ≡ marks election.paper
    by-border (Ok border) reading is h =
        ap (λ (b : MarkPlaces). length b.places) (by-code border (code_read page border) reading h) ∙ is.all
    by-border (Err fault) reading is h = absurd cc

    by-frame : (allowed : Bool) (fault : PageFault) (reading : PageReading)
        → cond allowed (reading_of_border election page (border_of election.paper page)) (Err fault) ≡ Ok reading
        → length reading.border.places ≡ marks election.paper
    by-frame true fault reading h = by-border (border_of election.paper page) reading (each election.paper page) h
    by-frame false fault reading h = absurd cc

    upright-places : (reading : PageReading) → upright_reading_of election page ≡ Ok reading → length reading.border.places ≡ marks election.paper
    unfolding upright_reading_of
    upright-places reading h = by-frame (is_allowed election.paper page) _ reading h

  by-way : (page : Page) (upright turned : Result PageReading PageFault) (reading : PageReading) → upright_reading_of election page ≡ upright
      → upright_reading_of election (turned_page page) ≡ turned → either_way upright turned ≡ Ok reading
      → length reading.border.places ≡ marks election.paper
  by-way page (Ok found) turned reading is turned_is h = upright-places page reading (is ∙ h)
  by-way page (Err fault) (Ok found) reading is turned_is h =
      ap (λ (b : MarkPlaces). length b.places) (border-same (told_turned found) reading h) ∙ upright-places (turned_page page) found turned_is
  by-way page (Err fault) (Err other) reading is turned_is h = absurd cc

  all-places : (page : Page) (reading : PageReading) → reading_of election page ≡ Ok reading → length reading.border.places ≡ marks election.paper
  unfolding reading_of
  all-places page reading h = by-way page (upright_reading_of election page) (upright_reading_of election (turned_page page)) reading refl refl h

-- its places lie in the frame, which is small
frame-small : (paper : Paper) (page : Page) → is_allowed paper page ≡ true → (page.width ≤ 2147483647) × (page.height ≤ 2147483647)
frame-small Letter page h = (grind (arith, nat_tests), grind (arith, nat_tests))
frame-small Legal page h = (grind (arith, nat_tests), grind (arith, nat_tests))

places-within : AcceptedAreFramed → (election : Election) (page : Page) (reading : PageReading) → CertifiesUpright election page reading
    → length reading.border.places ≡ marks election.paper → AreWithin 2147483647 reading.border.places
places-within framed election page reading c all k p h =
    let places : List Point = reading.border.places in
    let inside : k < marks election.paper = omega (arith, slice_get_within places k p h, all) in
    let small = frame-small election.paper page c.allowed in
    let within : IsPointWithin 2147483647 (point_at places k) = framed page 2147483647 (point_at places k) small.0 small.1 (c.chain.accepted k inside) in
    subst (IsPointWithin 2147483647) (get_or_from_slice_get places k p (record { u = pos 0; v = pos 0 }) h) within

-- its scores count the pixels of windows
score-small : (page : Page) (border : MarkPlaces) (bubble : Bubble) → bubble_score page border bubble < 2 ^ 32
score-small page border bubble =
    let window = bubble_window_of (place_of border bubble.col bubble.row) in
    let area = count_in-le_area window.left window.top 56 38 (dark_at page) in
    omega (arith, area)

scores-small : (page : Page) (border : MarkPlaces) (bubbles : List Bubble) (n : ℕ) → slice_index (scores_of page border bubbles) n < 2 ^ 32
scores-small page border [] n = omega arith
scores-small page border (bubble ∷ bubbles) zero = score-small page border bubble
scores-small page border (bubble ∷ bubbles) (suc n) = scores-small page border bubbles n

-- its bubbles stand for options of contests of the election, which are few
all-at : {A : Type 0} (P : A → Type 0) (xs : List A) (k : ℕ) (x : A) → All P xs → slice_get xs k ≡ Some x → P x
all-at P xs k x all h = subst P (get_or_from_slice_get xs k x x h) (all k x (slice_get_within xs k x h))

choices-few : (is_yes_no : Bool) (contest : Contest) → HasChoices is_yes_no contest → length contest.choices ≤ 100
choices-few true contest has =
    let two : length contest.choices ≡ 2 = ap length has.answers.2 in
    omega (arith, two)
choices-few false contest has = has.few

ins-few : (ins : Bool) (seats : ℕ) → cond ins seats 0 ≤ seats
ins-few true seats = omega arith
ins-few false seats = omega arith

options-few : (parties districts : ℕ) (contest : Contest) → IsContest parties districts contest → options_of contest ≤ 150
options-few parties districts contest is =
    omega (arith, choices-few contest.is_yes_no contest is.choices, ins-few contest.write_ins contest.seats, is.seats.1)

bubble-nameable : (election : Election) → IsValid election → (bubble : Bubble) → NamesOption election.contests bubble → IsNameable bubble
bubble-nameable election valid bubble names =
    let is = valid.contests.each bubble.contest no_contest names.contest in
    let few : options_of (contest_at election.contests bubble.contest) ≤ 150 = options-few (length election.parties) (length election.districts) (contest_at election.contests bubble.contest) is in
    record {
      contest = omega (arith, names.contest, valid.contests.few);
      option = omega (arith, names.option, few);
    }

bubbles-nameable : (election : Election) → IsValid election → (bubbles : List Bubble) → All (NamesOption election.contests) bubbles
    → (n : ℕ) → IsNameable (slice_index_or bubbles n no_bubble)
bubbles-nameable election valid [] all n = record { contest = omega arith; option = omega arith }
bubbles-nameable election valid (bubble ∷ bubbles) all zero = bubble-nameable election valid bubble (All-head (NamesOption election.contests) bubble bubbles all)
bubbles-nameable election valid (bubble ∷ bubbles) all (suc n) = bubbles-nameable election valid bubbles (All-tail (NamesOption election.contests) bubble bubbles all) n

-- the laws that this stands on
pub record AreBounds : Type 0 where
  pub framed : AcceptedAreFramed
  pub borders : EachScanHasItsBorder
  pub certificates : ReadingsAreCertificates
  pub stand : PlansStandOnGrid
  pub named : NamedStandOnGrid
  pub codes : CodesNamePrintedPages
  pub ranges : PrintedHaveCodes

module _ (laws : AreBounds) (election : Election) (valid : IsValid election) (scan : Page) (reading : PageReading) (read : reading_of election scan ≡ Ok reading) where
  -- of a certificate, by the page that it is one of
  from-certificate : (page : Page) (c : CertifiesUpright election page reading) → IsSayable election.paper (tag_of election.digest) (bubbles_on (named_plan election reading.code)) reading
  from-certificate page c =
      let named : named_plan election reading.code ≡ Ok c.plan = ap (named_plan election) c.code_is ∙ laws.codes.named election c.printed c.plan c.planned in
      let all : length reading.border.places ≡ marks election.paper = all-places laws.borders election scan reading read in
      let range = (laws.ranges election c.printed c.plan valid c.planned).1 in
      let card : reading.code.card < 1024 = subst (λ (code : PageCode). code.card < 1024) (sym c.code_is) range.card_fits in
      let number : reading.code.page < 64 = subst (λ (code : PageCode). code.page < 64) (sym c.code_is) range.page_fits in
      let stands = laws.stand election c.printed.card c.planned.card valid c.planned.card_is in
      let options : All (NamesOption election.contests) c.plan.bubbles =
      all-at (λ (plan : PagePlan). All (NamesOption election.contests) plan.bubbles) c.planned.card.pages (c.printed.page - 1) c.plan stands.options c.planned.page_is in
      let few : length c.plan.bubbles < 1000 = (laws.named election reading.code c.plan valid named).few in
      let scored : length reading.scores ≡ length c.plan.bubbles = ap length c.scores ∙ length-map c.plan.bubbles (bubble_score page reading.border) in
      let stated : length reading.states ≡ length c.plan.bubbles = ap length c.states ∙ length-map reading.scores _ ∙ scored in
      subst (λ (plan : Result PagePlan PageFault). IsSayable election.paper (tag_of election.digest) (bubbles_on plan) reading) (sym named)
      (record {
        version = ap (λ (code : PageCode). code.version) c.code_is;
        same_tag = ap (λ (code : PageCode). code.tag) c.code_is;
        card = omega (arith, card);
        page = omega (arith, number);
        of_paper = c.of_paper;
        places = all;
        within = places-within laws.framed election page reading c all;
        few = omega (arith, few);
        names = bubbles-nameable election valid c.plan.bubbles options;
        scores = scored;
        small = λ n. subst (λ (scores : List ℕ). slice_index scores n < 2 ^ 32) (sym c.scores) (scores-small page reading.border c.plan.bubbles n);
        states = stated;
      })

  pub reading-sayable : IsSayable election.paper (tag_of election.digest) (bubbles_on (named_plan election reading.code)) reading
  reading-sayable = from-certificate (shown_page reading.turned scan) (laws.certificates election scan reading valid read)
