-- The sheet of two readings of a planned card fits the election.
use Rattle.std.proofs.Common.{◌≡◌, ◌≢◌, ℕ, zero, suc, ◌+◌, ◌-◌, ◌<◌, ◌≤◌, ◌⊎◌, inl, inr, Bool, true, false, cond, ◌==◌, List, [], ◌∷◌, ◌++◌, length, map, filter, get_or, refl, sym, ap, ap₂, ◌∙◌, subst, arith, length-append}
use Rattle.std.specs.Prelude.{◌&&◌, ◌||◌, All, Option, Some, None, Ok, nat_lt, nat_le, slice_get}
use Rattle.std.specs.List.{flat_map, list_all, range_with_len, sum_by}
use Rattle.std.proofs.lemmas.Bool.{cond-true, cond-false}
use Rattle.std.proofs.lemmas.List.{length-map, map-id}
use Rattle.std.proofs.lemmas.List.Folds.{list_all-map}
use Rattle.std.proofs.lemmas.List.Sums.{sum_by-cons}
use Rattle.std.proofs.lemmas.Option.{same_Some, slice_get_within, slice_get-get_or, get_or_from_slice_get}
use Rattle.vx_base.proofs.Booleans.{chosen-if, and-both, and-left, and-right, or-cases}
use Rattle.vx_base.proofs.Lists.{map-map}
use Rattle.vx_base.proofs.Numbers.{equal-yes, equal-no, below-yes, below-from_yes, at_most-yes}
use Rattle.vx_election_model.specs.declared.contest.Contest.{Contest}
use Rattle.vx_election_model.specs.declared.style.Style.{Style}
use Rattle.vx_election_model.specs.declared.election.Election.{Election}
use Rattle.vx_election_model.specs.Lists.{card_count}
use Rattle.vx_election_model.specs.Options.{options_of}
use Rattle.vx_election_model.specs.Valid.{IsValid}
use Rattle.vx_styles.specs.Cards.{cards_of, cards_of_style, cards_from, contests_of_card, style_of_card}
use Rattle.vx_layout.specs.declared.bubbles.Bubble.{Bubble}
use Rattle.vx_layout.specs.declared.pages.PagePlan.{PagePlan}
use Rattle.vx_layout.specs.declared.plan.CardPlan.{CardPlan}
use Rattle.vx_layout.specs.Flow.{contest_at, no_contest}
use Rattle.vx_layout.specs.Options.{options_with, options_shown}
use Rattle.vx_layout.specs.Pages.{IsNumbered, NamesOption, PlansAreNumbered, PlansStandOnGrid}
use Rattle.vx_layout.specs.Plan.{plan_of, plan_of_card}
use Rattle.vx_rules.specs.declared.marks.ContestMarks.{ContestMarks}
use Rattle.vx_rules.specs.declared.marks.SheetMarks.{SheetMarks}
use Rattle.vx_scan_model.specs.declared.reading.PageReading.{PageReading}
use Rattle.vx_scan_model.specs.Named.{page_numbered}
use Rattle.vx_events.specs.Ascending.{ascends_from, is_ascending}
use Rattle.vx_events.specs.Fits.{has_options, is_read, contests_of, is_sheet}
use Rattle.vx_sheet.specs.Sheet.{has_bubble, bubbles_of, bubbles_on, states_on, contest_limit, is_on, marks_of, sheet_with, either_sheet, sheet_of, is_back_of}
use Rattle.vx_sheet.specs.Laws.{IsOfCard, IsPlanned, SheetsFit}
use Rattle.vx_sheet.proofs.Either.{IsPair, IsBack, is-pair, back-is, front-first, back-first}
use Rattle.vx_sheet.proofs.Counted.{count, states-counted, some-counted, none-elsewhere, of-bubble, page-counted, all-or-none}

-- what is made of some numbers of a range, each with its number, ascends
kept-ascend : (p : ℕ → Bool) (f : ℕ → ContestMarks) (least from n : ℕ) → ((k : ℕ) → (f k).contest ≡ k) → least ≤ from
    → ascends_from least (contests_of (flat_map (λ k. cond (p k) (f k ∷ []) []) (range_with_len from n))) ≡ true
kept-ascend p f least from zero own h = refl
kept-ascend p f least from (suc n) own h =
    by (p from) (kept-ascend p f least (from + 1) n own (omega arith)) (kept-ascend p f (from + 1) (from + 1) n own (omega arith))
  where
    rest : List ContestMarks
    rest = flat_map (λ k. cond (p k) (f k ∷ []) []) (range_with_len (from + 1) n)

    by : (b : Bool) → ascends_from least (contests_of rest) ≡ true → ascends_from (from + 1) (contests_of rest) ≡ true
        → ascends_from least (contests_of (cond b (f from ∷ []) [] ++ rest)) ≡ true
    by true without with =
        ap (λ k. nat_le least k && ascends_from (k + 1) (contests_of rest)) (own from)
        ∙ and-both _ _ (at_most-yes least from h) with
    by false without with = without

-- what holds of each that is kept
kept-hold : (p : ℕ → Bool) (f : ℕ → ContestMarks) (q : ContestMarks → Bool) (numbers : List ℕ) → ((k : ℕ) → p k ≡ true → q (f k) ≡ true)
    → list_all q (flat_map (λ k. cond (p k) (f k ∷ []) []) numbers) ≡ true
kept-hold p f q [] each = refl
kept-hold p f q (n ∷ numbers) each = by (p n) refl (kept-hold p f q numbers each)
  where
    rest : List ContestMarks
    rest = flat_map (λ k. cond (p k) (f k ∷ []) []) numbers

    by : (b : Bool) → p n ≡ b → list_all q rest ≡ true → list_all q (cond (p n) (f n ∷ []) [] ++ rest) ≡ true
    by true e holds = ap (λ (c : Bool). list_all q (cond c (f n ∷ []) [] ++ rest)) e ∙ and-both _ _ (each n e) holds
    by false e holds = ap (λ (c : Bool). list_all q (cond c (f n ∷ []) [] ++ rest)) e ∙ holds

-- there are as many cards as the styles make
cards-counted : (place : ℕ) (styles : List Style) → length (cards_from place styles) ≡ card_count styles
cards-counted place [] = refl
cards-counted place (style ∷ styles) =
    length-append (cards_of_style place style.precincts) (cards_from (place + 1) styles)
    ∙ ap₂ (λ (m n : ℕ). m + n) (length-map style.precincts _) (cards-counted (place + 1) styles)
    ∙ sym (sum_by-cons (λ (s : Style). length s.precincts) style styles)

card-there : (election : Election) (card : ℕ) (plan : CardPlan) → plan_of election card ≡ Ok plan → nat_lt card (card_count election.styles) ≡ true
unfolding plan_of
card-there election card plan h =
    ap (nat_lt card) (sym (cards-counted 0 election.styles))
    ∙ (chosen-if (nat_lt card (length (cards_of election))) (plan_of_card election card) _ plan h).0

-- a reading's page stands at its place in the plan
pub record StandsAt (plan : CardPlan) (reading : PageReading) : Type 0 where
  pub page : PagePlan
  pub place : ℕ
  pub numbered : reading.code.page ≡ place + 1
  pub there : slice_get plan.pages place ≡ Some page
  pub bubbles : bubbles_on plan reading ≡ page.bubbles
  pub states : length reading.states ≡ length page.bubbles

stands : (plan : CardPlan) (reading : PageReading) → IsOfCard plan reading → StandsAt plan reading
stands plan reading is = by reading.code.page refl
  where
    by : (n : ℕ) → reading.code.page ≡ n → StandsAt plan reading
    by zero e = let no : None ≡ Some is.page = sym (ap (page_numbered plan) e) ∙ is.numbered in absurd cc
    by (suc n) e =
        let there : slice_get plan.pages (suc n - 1) ≡ Some is.page =
        sym (cond-false (suc n == 0) None (slice_get plan.pages (suc n - 1)) (equal-no (suc n) 0 (λ e. absurd (omega arith))))
        ∙ sym (ap (page_numbered plan) e) ∙ is.numbered in
        let less : suc n - 1 ≡ n = omega arith in
        record {
          page = is.page;
          place = n;
          numbered = let one : suc n ≡ n + 1 = omega arith in e ∙ one;
          there = subst (λ k. slice_get plan.pages k ≡ Some is.page) less there;
          bubbles = ap bubbles_of is.numbered;
          states = is.states;
        }

module _ (numbered-law : PlansAreNumbered) (grid-law : PlansStandOnGrid) (election : Election) (plan : CardPlan) (card : ℕ) (valid : IsValid election) (planned : IsPlanned election card plan) where
  numbered : IsNumbered card plan
  numbered = numbered-law election card plan valid planned.planned

  -- a page other than its own has no bubble of a contest
  elsewhere : (contest : ℕ) (i : ℕ) (page : PagePlan) → slice_get plan.pages i ≡ Some page → has_bubble contest page.bubbles ≡ true
      → (j : ℕ) (other : PagePlan) → slice_get plan.pages j ≡ Some other → j ≢ i → count contest (options_shown other.bubbles) ≡ 0
  elsewhere contest i page there has j other at apart =
      let page_for = planned.pages.page_for in
      let own-here = planned.pages.each i page (slice_get_within plan.pages i page there) in
      none-elsewhere page_for contest other.page other.bubbles
      (subst (λ (p : PagePlan). All (λ (bubble : Bubble). page_for bubble.contest ≡ p.page) p.bubbles) (get_or_from_slice_get plan.pages j other page at) (planned.pages.each j page (slice_get_within plan.pages j other at)))
      (λ e. apart (same-page e))
    where
      page_for : ℕ → ℕ
      page_for = planned.pages.page_for

      here : page_for contest ≡ page.page
      here = of-bubble (λ c. page_for c ≡ page.page) contest page.bubbles
          (subst (λ (p : PagePlan). All (λ (bubble : Bubble). page_for bubble.contest ≡ p.page) p.bubbles) (get_or_from_slice_get plan.pages i page page there) (planned.pages.each i page (slice_get_within plan.pages i page there))) has

      same-page : page_for contest ≡ other.page → j ≡ i
      same-page e =
          let one = numbered.number i page there in
          let two = numbered.number j other at in
          omega (arith, sym e ∙ here, one, two)

  -- so all bubbles of a contest are on its page, and they are all its options
  all-here : (contest : ℕ) (i : ℕ) (page : PagePlan) → slice_get plan.pages i ≡ Some page → has_bubble contest page.bubbles ≡ true
      → count contest (options_shown page.bubbles) ≡ options_of (contest_at election.contests contest)
  all-here contest i page there has =
      by (all-or-none (style_of_card election.styles card) election.contests contest 0 election.contests)
    where
      on-page : count contest (flat_map (λ (p : PagePlan). options_shown p.bubbles) plan.pages) ≡ count contest (options_shown page.bubbles)
      on-page = page-counted contest plan.pages i page there (elsewhere contest i page there has)

      all : count contest (flat_map (λ (p : PagePlan). options_shown p.bubbles) plan.pages) ≡ count contest (flat_map (options_with election.contests) (contests_of_card election card))
      all = ap (count contest) planned.options.each

      by : (count contest (flat_map (options_with election.contests) (contests_of_card election card)) ≡ 0)
          ⊎ (count contest (flat_map (options_with election.contests) (contests_of_card election card)) ≡ options_of (contest_at election.contests contest))
          → count contest (options_shown page.bubbles) ≡ options_of (contest_at election.contests contest)
      by (inl none) = let some = some-counted contest page.bubbles has in absurd (omega (arith, some, sym on-page ∙ all ∙ none))
      by (inr every) = sym on-page ∙ all ∙ every

  -- the election has the contest
  contest-there : (contest : ℕ) (i : ℕ) (page : PagePlan) → slice_get plan.pages i ≡ Some page → has_bubble contest page.bubbles ≡ true → contest < length election.contests
  contest-there contest i page there has =
      let grid = grid-law election card plan valid planned.planned in
      let named = subst (λ (p : PagePlan). All (NamesOption election.contests) p.bubbles) (get_or_from_slice_get plan.pages i page page there) (grid.options i page (slice_get_within plan.pages i page there)) in
      of-bubble (λ c. c < length election.contests) contest page.bubbles (λ k d h. (named k d h).contest) has

  -- what a contest of a sheet was read as is as long as it has options
  read-whole : (contest states : ℕ) → contest < length election.contests → states ≡ options_of (contest_at election.contests contest) → has_options (slice_get election.contests contest) states ≡ true
  read-whole contest states below same =
      ap (λ (o : Option Contest). has_options o states) (slice_get-get_or election.contests contest no_contest below)
      ∙ equal-yes (options_of (contest_at election.contests contest)) states (sym same)

  module _ (front back : PageReading) (one : StandsAt plan front) (two : StandsAt plan back) (apart : one.place ≢ two.place) where
    lengths : (contest : ℕ) → length (marks_of plan front back contest).states ≡ count contest (options_shown one.page.bubbles) + count contest (options_shown two.page.bubbles)
    lengths contest =
        length-append (states_on contest (bubbles_on plan front) front.states) (states_on contest (bubbles_on plan back) back.states)
        ∙ ap₂ (λ (m n : ℕ). m + n)
        (ap (λ (bubbles : List Bubble). length (states_on contest bubbles front.states)) one.bubbles ∙ states-counted contest one.page.bubbles front.states one.states)
        (ap (λ (bubbles : List Bubble). length (states_on contest bubbles back.states)) two.bubbles ∙ states-counted contest two.page.bubbles back.states two.states)

    read-here : (contest : ℕ) → is_on plan front back contest ≡ true → is_read election (marks_of plan front back contest) ≡ true
    read-here contest on =
        or-cases (has_bubble contest (bubbles_on plan front)) (has_bubble contest (bubbles_on plan back)) on in-front in-back
      where
        in-front : has_bubble contest (bubbles_on plan front) ≡ true → is_read election (marks_of plan front back contest) ≡ true
        in-front h =
            let has = ap (has_bubble contest) (sym one.bubbles) ∙ h in
            let none = elsewhere contest one.place one.page one.there has two.place two.page two.there (λ e. apart (sym e)) in
            let every = all-here contest one.place one.page one.there has in
            let whole = lengths contest in
            read-whole contest _ (contest-there contest one.place one.page one.there has) (omega (arith, whole, none, every))

        in-back : has_bubble contest (bubbles_on plan back) ≡ true → is_read election (marks_of plan front back contest) ≡ true
        in-back h =
            let has = ap (has_bubble contest) (sym two.bubbles) ∙ h in
            let none = elsewhere contest two.place two.page two.there has one.place one.page one.there apart in
            let every = all-here contest two.place two.page two.there has in
            let whole = lengths contest in
            read-whole contest _ (contest-there contest two.place two.page two.there has) (omega (arith, whole, none, every))

    ascend-here : is_ascending (contests_of (sheet_with plan front back).contests) ≡ true
    ascend-here = kept-ascend (is_on plan front back) (marks_of plan front back) 0 0 contest_limit (λ k. refl) (omega arith)

    all-read : list_all (is_read election) (sheet_with plan front back).contests ≡ true
    all-read = kept-hold (is_on plan front back) (marks_of plan front back) (is_read election) (range_with_len 0 contest_limit) read-here

    -- the sheet of a front and its back
    pub sheet-fits : front.code.card ≡ card → IsBack front.code.page back.code.page → is_sheet election (sheet_with plan front back) ≡ true
    sheet-fits same is =
        let few : front.code.page < 64 = omega (arith, one.numbered, slice_get_within plan.pages one.place one.page one.there, numbered.few) in
        and-both _ _
        (and-both _ _
        (and-both _ _
        (and-both _ _ (ap (λ n. nat_lt n (card_count election.styles)) same ∙ card-there election card plan planned.planned)
        (equal-yes _ _ is.odd))
        (below-yes front.code.page 64 few))
        ascend-here)
        all-read

pub fits-election : PlansAreNumbered → PlansStandOnGrid → SheetsFit
fits-election numbered-law grid-law election plan first second sheet valid planned first-is second-is h =
    or-cases (is_back_of second.code.page first.code.page) (is_back_of first.code.page second.code.page) is.0.facing
    (λ b. let back = back-is _ _ b in
    ap (is_sheet election) (sym is.1 ∙ front-first plan first second back)
    ∙ sheet-fits numbered-law grid-law election plan first.code.card valid planned first second one two
    (λ e. absurd (omega (arith, one.numbered, two.numbered, back.next))) refl back)
    (λ b. let back = back-is _ _ b in
    ap (is_sheet election) (sym is.1 ∙ back-first plan second first back)
    ∙ sheet-fits numbered-law grid-law election plan first.code.card valid planned second first two one
    (λ e. absurd (omega (arith, one.numbered, two.numbered, back.next))) (sym is.0.card) back)
  where
    is : IsPair first second × (either_sheet plan first second ≡ sheet)
    is = is-pair plan first second sheet h

    one : StandsAt plan first
    one = stands plan first first-is

    two : StandsAt plan second
    two = stands plan second second-is
