-- Two images that fit the pages of a sheet, and what is read of them.
use Rattle.std.proofs.Common.{◌≡◌, ◌⊎◌, inl, inr, ℕ, ◌+◌, ◌%◌, ◌==◌, Bool, true, false, cond, List, [], ◌∷◌, ◌++◌, map, None, Some, Ok, refl, sym, ap, ap₂, ◌∙◌, arith}
use Rattle.std.specs.Prelude.{◌||◌}
use Rattle.std.specs.Bool.{beq}
use Rattle.std.specs.List.{flat_map, range_with_len}
use Rattle.std.proofs.lemmas.Bool.{cond-true, cond-false}
use Rattle.std.proofs.lemmas.List.{map-append}
use Rattle.vx_base.proofs.Booleans.{and-both, or-left, or-right}
use Rattle.vx_base.proofs.Lists.{flat_map-same}
use Rattle.vx_base.proofs.Numbers.{equal-yes, equal-no}
use Rattle.vx_plane.specs.Plane.{Page}
use Rattle.vx_count.specs.Turned.{IsWhole}
use Rattle.vx_grid.specs.declared.kind.Kind.{Kind}
use Rattle.vx_grid.specs.declared.kind.Kind.TheVariants.{Precinct, Absentee, Provisional, Other}
use Rattle.vx_grid.specs.declared.state.State.{State}
use Rattle.vx_code.specs.declared.code.PageCode.{PageCode}
use Rattle.vx_election_model.specs.declared.election.Election.{Election}
use Rattle.vx_election_model.specs.Valid.{IsValid}
use Rattle.vx_layout.specs.declared.bubbles.Bubble.{Bubble}
use Rattle.vx_layout.specs.declared.pages.PagePlan.{PagePlan}
use Rattle.vx_layout.specs.declared.plan.CardPlan.{CardPlan}
use Rattle.vx_layout.specs.Plan.{plan_of}
use Rattle.vx_layout.specs.Printed.{IsPlanned, PrintedPage, code_of}
use Rattle.vx_rules.specs.declared.marks.ContestMarks.{ContestMarks}
use Rattle.vx_rules.specs.declared.marks.SheetMarks.{SheetMarks}
use Rattle.vx_scan_model.specs.declared.reading.PageReading.{PageReading}
use Rattle.vx_scan_model.specs.Fits.{FitsUpright, FittingScansAreRead, IsReadAs, state_of_mark}
use Rattle.vx_scan_model.specs.Named.{page_numbered}
use Rattle.vx_scan_model.specs.Reading.{reading_of}
use Rattle.vx_sheet.specs.Came.{if_paired, plan_there, sheet_read}
use Rattle.vx_sheet.specs.Sheet.{alike_sheet, are_alike, are_facing, bubbles_of, bubbles_on, contest_limit, either_sheet, facing_sheet, has_bubble, is_back_of, same_kind, sheet_of, sheet_with, states_on}
use Rattle.vx_sheet.specs.Margin.{MarkedSheet, front_of, back_of, marks_of, contest_if_on, sheet_marked, FitsPages, FittingSheetsAreRead}

-- what the bubbles of a contest are read as, by their marks
states-marked : (contest : ℕ) (bubbles : List Bubble) (marks : List Bool) → states_on contest bubbles (map state_of_mark marks) ≡ map state_of_mark (marks_of contest bubbles marks)
states-marked contest [] marks = refl
states-marked contest (bubble ∷ bubbles) [] = refl
states-marked contest (bubble ∷ bubbles) (mark ∷ marks) = by (bubble.contest == contest) (states-marked contest bubbles marks)
  where
    by : (b : Bool) → states_on contest bubbles (map state_of_mark marks) ≡ map state_of_mark (marks_of contest bubbles marks)
        → cond b (state_of_mark mark ∷ []) [] ++ states_on contest bubbles (map state_of_mark marks) ≡ map state_of_mark (cond b (mark ∷ []) [] ++ marks_of contest bubbles marks)
    by true rest = ap (λ (states : List State). state_of_mark mark ∷ states) rest
    by false rest = rest

-- the contest of a number, if it has a bubble on one of two pages, by what those were read as
abbrev contest-on : List Bubble → List Bubble → List State → List State → ℕ → List ContestMarks
contest-on fronts backs front back contest =
    cond (has_bubble contest fronts || has_bubble contest backs)
    (record { contest = contest; states = states_on contest fronts front ++ states_on contest backs back } ∷ []) []

abbrev contests-on : List Bubble → List Bubble → List State → List State → List ContestMarks
contests-on fronts backs front back = flat_map (contest-on fronts backs front back) (range_with_len 0 contest_limit)

contest-marked : (sheet : MarkedSheet) (contest : ℕ)
    → contest-on sheet.front_plan.bubbles sheet.back_plan.bubbles (map state_of_mark sheet.front_marks) (map state_of_mark sheet.back_marks) contest ≡ contest_if_on sheet contest
contest-marked sheet contest =
    let fronts = sheet.front_plan.bubbles in
    let backs = sheet.back_plan.bubbles in
    let states : states_on contest fronts (map state_of_mark sheet.front_marks) ++ states_on contest backs (map state_of_mark sheet.back_marks)
    ≡ map state_of_mark (marks_of contest fronts sheet.front_marks ++ marks_of contest backs sheet.back_marks) =
    ap₂ (λ (a b : List State). a ++ b) (states-marked contest fronts sheet.front_marks) (states-marked contest backs sheet.back_marks)
    ∙ sym (map-append state_of_mark (marks_of contest fronts sheet.front_marks) (marks_of contest backs sheet.back_marks)) in
    ap (λ (some : List State). cond (has_bubble contest fronts || has_bubble contest backs) (record { contest = contest; states = some } ∷ []) []) states

contests-marked : (sheet : MarkedSheet)
    → contests-on sheet.front_plan.bubbles sheet.back_plan.bubbles (map state_of_mark sheet.front_marks) (map state_of_mark sheet.back_marks) ≡ (sheet_marked sheet).contests
contests-marked sheet =
    flat_map-same
    (contest-on sheet.front_plan.bubbles sheet.back_plan.bubbles (map state_of_mark sheet.front_marks) (map state_of_mark sheet.back_marks))
    (contest_if_on sheet) (range_with_len 0 contest_limit) (contest-marked sheet)

-- a reading says a page of a planned card, with its marks
record SaysPage (election : Election) (card : CardPlan) (printed : PrintedPage) (plan : PagePlan) (marks : List Bool) (reading : PageReading) : Type 0 where
  code : reading.code ≡ code_of election printed
  states : reading.states ≡ map state_of_mark marks
  page : page_numbered card printed.page ≡ Some plan

bubbles-are : (election : Election) (card : CardPlan) (printed : PrintedPage) (plan : PagePlan) (marks : List Bool) (reading : PageReading)
    → SaysPage election card printed plan marks reading → bubbles_on card reading ≡ plan.bubbles
bubbles-are election card printed plan marks reading says =
    ap (λ (code : PageCode). bubbles_of (page_numbered card code.page)) says.code ∙ ap bubbles_of says.page

kind-same : (kind : Kind) → same_kind kind kind ≡ true
kind-same Precinct = refl
kind-same Absentee = refl
kind-same Provisional = refl
kind-same Other = refl

bool-same : (b : Bool) → beq b b ≡ true
bool-same true = refl
bool-same false = refl

module _ (election : Election) (card : CardPlan) (sheet : MarkedSheet) (odd : sheet.front % 2 ≡ 1) (front back : PageReading)
    (front-says : SaysPage election card (front_of sheet) sheet.front_plan sheet.front_marks front)
    (back-says : SaysPage election card (back_of sheet) sheet.back_plan sheet.back_marks back) where
  -- the sheet of the two readings
  is-sheet : sheet_with card front back ≡ sheet_marked sheet
  is-sheet =
      ap (λ (code : PageCode). record { card = code.card; front = code.page; kind = code.kind; test = code.test; contests = (sheet_with card front back).contests }) front-says.code
      ∙ ap (λ (contests : List ContestMarks). record { card = sheet.card; front = sheet.front; kind = sheet.kind; test = sheet.test; contests = contests })
      (ap₂ (λ (fronts backs : List Bubble). contests-on fronts backs front.states back.states)
      (bubbles-are election card (front_of sheet) sheet.front_plan sheet.front_marks front front-says)
      (bubbles-are election card (back_of sheet) sheet.back_plan sheet.back_marks back back-says)
      ∙ ap₂ (λ (one other : List State). contests-on sheet.front_plan.bubbles sheet.back_plan.bubbles one other) front-says.states back-says.states
      ∙ contests-marked sheet)

  code-front : {A : Type 0} (of : PageCode → A) → of front.code ≡ of (code_of election (front_of sheet))
  code-front of = ap of front-says.code

  code-back : {A : Type 0} (of : PageCode → A) → of back.code ≡ of (code_of election (back_of sheet))
  code-back of = ap of back-says.code

  odd-first : is_back_of back.code.page front.code.page ≡ true
  odd-first =
      ap₂ (λ (one other : ℕ). is_back_of one other) (code-back (λ code. code.page)) (code-front (λ code. code.page))
      ∙ and-both (sheet.front % 2 == 1) (sheet.front + 1 == sheet.front + 1) (equal-yes (sheet.front % 2) 1 odd) (equal-yes (sheet.front + 1) (sheet.front + 1) refl)

  odd-front : (front.code.page % 2 == 1) ≡ true
  odd-front = equal-yes (front.code.page % 2) 1 (ap (λ (page : ℕ). page % 2) (code-front (λ code. code.page)) ∙ odd)

  even-back : (back.code.page % 2 == 1) ≡ false
  even-back =
      let page : back.code.page ≡ sheet.front + 1 = code-back (λ code. code.page) in
      equal-no (back.code.page % 2) 1 (λ e. absurd (omega (arith, odd, page, e)))

  alike : are_alike front.code back.code ≡ true
  alike =
      ap₂ are_alike front-says.code back-says.code
      ∙ and-both (same_kind sheet.kind sheet.kind) (beq sheet.test sheet.test) (kind-same sheet.kind) (bool-same sheet.test)

  alike-back : are_alike back.code front.code ≡ true
  alike-back =
      ap₂ are_alike back-says.code front-says.code
      ∙ and-both (same_kind sheet.kind sheet.kind) (beq sheet.test sheet.test) (kind-same sheet.kind) (bool-same sheet.test)

  cards : front.code.card ≡ back.code.card
  cards = code-front (λ code. code.card) ∙ sym (code-back (λ code. code.card))

  -- whichever comes first
  front-first : sheet_of card front back ≡ Ok (sheet_marked sheet)
  front-first =
      cond-true (front.code.card == back.code.card) (facing_sheet card front back) _ (equal-yes front.code.card back.code.card cards)
      ∙ cond-true (are_facing front.code.page back.code.page) (alike_sheet card front back) _ (or-left (is_back_of back.code.page front.code.page) _ odd-first)
      ∙ cond-true (are_alike front.code back.code) (Ok (either_sheet card front back)) _ alike
      ∙ ap Ok (cond-true (front.code.page % 2 == 1) (sheet_with card front back) (sheet_with card back front) odd-front ∙ is-sheet)

  back-first : sheet_of card back front ≡ Ok (sheet_marked sheet)
  back-first =
      cond-true (back.code.card == front.code.card) (facing_sheet card back front) _ (equal-yes back.code.card front.code.card (sym cards))
      ∙ cond-true (are_facing back.code.page front.code.page) (alike_sheet card back front) _ (or-right (is_back_of front.code.page back.code.page) _ odd-first)
      ∙ cond-true (are_alike back.code front.code) (Ok (either_sheet card back front)) _ alike-back
      ∙ ap Ok (cond-false (back.code.page % 2 == 1) (sheet_with card back front) (sheet_with card front back) even-back ∙ is-sheet)

page-there : (election : Election) (printed : PrintedPage) (plan : PagePlan) (is : IsPlanned election printed plan) → page_numbered is.card printed.page ≡ Some plan
page-there election printed plan is =
    let none : (printed.page == 0) ≡ false = equal-no printed.page 0 (λ e. absurd (omega (arith, e, is.from_one))) in
    cond-false (printed.page == 0) None _ none ∙ is.page_is

planned-of : (election : Election) (a b : Page) (printed : PrintedPage) (plan : PagePlan) (marks : List Bool)
    → FitsUpright election a printed plan marks ⊎ FitsUpright election b printed plan marks → IsPlanned election printed plan
planned-of election a b printed plan marks (inl fits) = fits.planned
planned-of election a b printed plan marks (inr fits) = fits.planned

-- one card has one plan
same-plan : (election : Election) (number : ℕ) (one other : CardPlan) → plan_of election number ≡ Ok one → plan_of election number ≡ Ok other → one ≡ other
same-plan election number one other is too = cc

says-page : (election : Election) (card : CardPlan) (printed : PrintedPage) (plan : PagePlan) (marks : List Bool) (image : Page)
    → (is : IsPlanned election printed plan) → plan_of election printed.card ≡ Ok card → (read : IsReadAs election image printed marks)
    → SaysPage election card printed plan marks read.reading
says-page election card printed plan marks image is planned read = record {
  code = read.says.code_is;
  states = read.says.states_are;
  page =
      ap (λ (some : CardPlan). page_numbered some printed.page) (same-plan election printed.card card is.card planned is.card_is)
      ∙ page-there election printed plan is;
}

-- what two readings of one card come to, by its plan
of-readings : (election : Election) (image : ℕ) (first second : Page) (one other : PageReading) (card : CardPlan) (number : ℕ) (made : SheetMarks)
    → reading_of election first ≡ Ok one → reading_of election second ≡ Ok other
    → one.code.card ≡ number → plan_of election number ≡ Ok card → sheet_of card one other ≡ Ok made
    → sheet_read election image (reading_of election first) (reading_of election second) ≡ Ok made
of-readings election image first second one other card number made first-is second-is card-is planned paired =
    let there : plan_there one.code.card (plan_of election one.code.card) ≡ card =
    ap (λ (n : ℕ). plan_there n (plan_of election n)) card-is ∙ ap (plan_there number) planned in
    ap₂ (sheet_read election image) first-is second-is
    ∙ ap (λ (plan : CardPlan). if_paired (sheet_of plan one other)) there
    ∙ ap if_paired paired

module _ (fitting : FittingScansAreRead) where
  read-pages : (election : Election) (image : ℕ) (front back : Page) (sheet : MarkedSheet)
      → IsValid election → IsWhole front → IsWhole back → sheet.front % 2 ≡ 1 → FitsPages election front back sheet
      → (sheet_read election image (reading_of election front) (reading_of election back) ≡ Ok (sheet_marked sheet))
      × (sheet_read election image (reading_of election back) (reading_of election front) ≡ Ok (sheet_marked sheet))
  read-pages election image front back sheet valid front-whole back-whole odd fits =
      let one : IsReadAs election front (front_of sheet) sheet.front_marks = fitting election front (front_of sheet) sheet.front_plan sheet.front_marks valid front-whole fits.0 in
      let other : IsReadAs election back (back_of sheet) sheet.back_marks = fitting election back (back_of sheet) sheet.back_plan sheet.back_marks valid back-whole fits.1 in
      let front-is : IsPlanned election (front_of sheet) sheet.front_plan = planned-of election _ _ (front_of sheet) sheet.front_plan sheet.front_marks fits.0 in
      let back-is : IsPlanned election (back_of sheet) sheet.back_plan = planned-of election _ _ (back_of sheet) sheet.back_plan sheet.back_marks fits.1 in
      let front-says = says-page election front-is.card (front_of sheet) sheet.front_plan sheet.front_marks front front-is front-is.card_is one in
      let back-says = says-page election front-is.card (back_of sheet) sheet.back_plan sheet.back_marks back back-is front-is.card_is other in (
        of-readings election image front back one.reading other.reading front-is.card sheet.card (sheet_marked sheet) one.is_read other.is_read
            (ap (λ (code : PageCode). code.card) one.says.code_is) front-is.card_is
            (front-first election front-is.card sheet odd one.reading other.reading front-says back-says),
        of-readings election image back front other.reading one.reading front-is.card sheet.card (sheet_marked sheet) other.is_read one.is_read
            (ap (λ (code : PageCode). code.card) other.says.code_is) front-is.card_is
            (back-first election front-is.card sheet odd one.reading other.reading front-says back-says),
      )

  -- two images that fit a sheet are read as it
  pub sheets-read : FittingSheetsAreRead
  sheets-read election image first second sheet valid first-whole second-whole fits = by fits.either
    where
      by : FitsPages election first second sheet ⊎ FitsPages election second first sheet → sheet_read election image (reading_of election first) (reading_of election second) ≡ Ok (sheet_marked sheet)
      by (inl pages) = (read-pages election image first second sheet valid first-whole second-whole fits.odd pages).0
      by (inr pages) = (read-pages election image second first sheet valid second-whole first-whole fits.odd pages).1
