-- Two pages of a sheet, and one sheet more.
use Rattle.std.proofs.Common.{◌≡◌, ℕ, ◌+◌, ◌-◌, ◌%◌, ◌<◌, ◌≤◌, List, [], ◌∷◌, length, get_or, false, sym, ap, ap₂, ◌∙◌, arith}
use Rattle.std.specs.Prelude.{Some, Result, Ok, slice_get, take}
use Rattle.std.proofs.lemmas.Option.{get_or_from_slice_get, slice_get_past, slice_get_read, slice_get_within}
use Rattle.std.specs.List.{range_with_len}
use Rattle.rand_pcg.specs.Lcg.{Lcg}
use Rattle.vx_grid.specs.declared.kind.Kind.TheVariants.{Precinct}
use Rattle.vx_election_model.specs.declared.election.Election.{Election}
use Rattle.vx_election_model.specs.Valid.{IsValid}
use Rattle.vx_layout.specs.declared.pages.PagePlan.{PagePlan}
use Rattle.vx_layout.specs.declared.plan.CardPlan.{CardPlan}
use Rattle.vx_layout.specs.Pages.{PlansAreNumbered}
use Rattle.vx_layout.specs.Plan.{plan_of}
use Rattle.vx_layout.specs.Plans.{ArePlansOf}
use Rattle.vx_layout.specs.Printed.{PagesArePlanned}
use Rattle.vx_scan_model.specs.declared.reading.PageReading.{PageReading}
use Rattle.vx_scan_model.specs.declared.fault.PageFault.{PageFault}
use Rattle.vx_sheet.specs.Came.{sheet_read}
use Rattle.vx_simulate.specs.Draws.{draw_all}
use Rattle.vx_command_demo.specs.declared.sums.PageSums.{PageSums}
use Rattle.vx_command_demo.specs.declared.sums.ReasonSums.{ReasonSums}
use Rattle.vx_command_demo.specs.declared.counted.Counted.{Counted}
use Rattle.vx_command_demo.specs.Trials.{IsFirstSheet, Trial, first_sheet, try_card, try_page, try_sheet}
use Rattle.vx_command_demo.specs.Sums.{page_sums, read_as}
use Rattle.vx_command_demo.specs.Adding.{both, both_pages, counted_of, nothing, reasons_read}
use Rattle.vx_command_demo.proofs.Adding.{counted-push, of_two, one-sheet, same-counted}
use Rattle.vx_command_demo.proofs.Drawn.{number-more}

pub two-counted : (election : Election) (card : ℕ) (front back : PagePlan) (g rng : Lcg) (a b pages : PageSums) (reasons : ReasonSums) (read other : Result PageReading PageFault)
    → rng ≡ (try_page election card front g).1
    → a ≡ page_sums election ((try_page election card front g).0 ∷ []) → b ≡ page_sums election ((try_page election card back rng).0 ∷ [])
    → pages ≡ both_pages a b
    → read ≡ read_as election (try_page election card front g).0 → other ≡ read_as election (try_page election card back rng).0
    → reasons ≡ reasons_read election (sheet_read election 1 read other)
    → ◌≡◌ {A = Counted} (record { pages = pages; reasons = reasons }) (counted_of election ((draw_all (try_page election card) (front ∷ back ∷ []) g).0 ∷ []))
two-counted election card front back g rng a b pages reasons read other at is_a is_b sums is_read is_other held =
    let one : Trial = (try_page election card front g).0 in
    let two : Trial = (try_page election card back (try_page election card front g).1).0 in
    let then_b : b ≡ page_sums election (two ∷ []) = is_b ∙ ap (λ (r : Lcg). page_sums election ((try_page election card back r).0 ∷ [])) at in
    let then_other : other ≡ read_as election two = is_other ∙ ap (λ (r : Lcg). read_as election (try_page election card back r).0) at in
    same-counted (record { pages = pages; reasons = reasons }) (of_two election one two)
    (sums ∙ ap₂ both_pages is_a then_b)
    (held ∙ ap₂ (λ (x y : Result PageReading PageFault). reasons_read election (sheet_read election 1 x y)) is_read then_other)
    ∙ sym (one-sheet election one two)

pub sheet-more : (election : Election) (plans : List CardPlan) (start rng next : Lcg) (n : ℕ) (counted more now : Counted)
    → counted ≡ counted_of election (draw_all (try_sheet election plans) (range_with_len 1 n) start).0
    → rng ≡ (draw_all (try_sheet election plans) (range_with_len 1 n) start).1
    → more ≡ counted_of election ((try_card election plans (n % 3) rng).0 ∷ [])
    → next ≡ (try_card election plans (n % 3) rng).1
    → now ≡ both counted more
    → (now ≡ counted_of election (draw_all (try_sheet election plans) (range_with_len 1 (n + 1)) start).0)
    × (next ≡ (draw_all (try_sheet election plans) (range_with_len 1 (n + 1)) start).1)
sheet-more election plans start rng next n counted more now far at is_more moved sums =
    let done : List (List Trial) × Lcg = draw_all (try_sheet election plans) (range_with_len 1 n) start in
    let number : 1 + n - 1 ≡ n = omega arith in
    let card : try_card election plans (n % 3) rng ≡ try_sheet election plans (1 + n) done.1 =
    ap (λ (r : Lcg). try_card election plans (n % 3) r) at ∙ ap (λ (k : ℕ). try_card election plans (k % 3) done.1) (sym number) in
    let step = number-more (try_sheet election plans) 1 n start in (
      sums
          ∙ ap₂ both far (is_more ∙ ap (λ (p : List Trial × Lcg). counted_of election (p.0 ∷ [])) card)
          ∙ sym (counted-push election done.0 (try_sheet election plans (1 + n) done.1).0)
          ∙ ap (λ (p : List (List Trial) × Lcg). counted_of election p.0) (sym step),
      moved
          ∙ ap (λ (p : List Trial × Lcg). p.1) card
          ∙ ap (λ (p : List (List Trial) × Lcg). p.1) (sym step),
    )

-- a card without a sheet has none that is tried
pub none-tried : (election : Election) (plans : List CardPlan) (card : ℕ) (g : Lcg) → first_sheet (slice_get plans card) ≡ []
    → (nothing ≡ counted_of election ((try_card election plans card g).0 ∷ [])) × (g ≡ (try_card election plans card g).1)
none-tried election plans card g is = (
  ap (λ (pages : List PagePlan). counted_of election ((draw_all (try_page election card) pages g).0 ∷ [])) (sym is),
  ap (λ (pages : List PagePlan). (draw_all (try_page election card) pages g).1) (sym is),
)

-- one with two pages has those
pub some-tried : (election : Election) (plans : List CardPlan) (card : ℕ) (front back : PagePlan) (g : Lcg)
    → first_sheet (slice_get plans card) ≡ front ∷ back ∷ []
    → draw_all (try_page election card) (front ∷ back ∷ []) g ≡ try_card election plans card g
some-tried election plans card front back g is = ap (λ (pages : List PagePlan). draw_all (try_page election card) pages g) (sym is)

-- the first two pages of a card that is there
two-taken : (pages : List PagePlan) (front back : PagePlan) → slice_get pages 0 ≡ Some front → slice_get pages 1 ≡ Some back → take 2 pages ≡ front ∷ back ∷ []
two-taken [] front back at_0 at_1 = absurd cc
two-taken (a ∷ []) front back at_0 at_1 = absurd cc
two-taken (a ∷ b ∷ more) front back at_0 at_1 = cc

pub no-sheet : (plans slice : List CardPlan) (card : ℕ) → slice ≡ plans → length slice ≤ card → first_sheet (slice_get plans card) ≡ []
no-sheet plans slice card same past = ap first_sheet (slice_get_past plans card (omega (arith, past, ap length same)))

-- a planned card that is there, with two pages at least
pub record IsCardThere (election : Election) (plans : List CardPlan) (card : ℕ) (plan : CardPlan) : Type 0 where
  pub at : slice_get plans card ≡ Some plan
  pub planned : plan_of election card ≡ Ok plan
  pub two : 2 ≤ length plan.pages

pub card-there : (election : Election) (plans slice : List CardPlan) (card : ℕ) (plan : CardPlan) → PlansAreNumbered → IsValid election → ArePlansOf election plans → slice ≡ plans → card < length slice → plan ≡ get_or slice card plan → IsCardThere election plans card plan
card-there election plans slice card plan numbered valid are same below is =
    let at : slice_get plans card ≡ Some plan =
    slice_get_read plans (length slice) card plan (ap length same) below (is ∙ ap (λ (xs : List CardPlan). get_or xs card plan) same) in
    let planned : plan_of election card ≡ Ok plan =
    are.each card plan (slice_get_within plans card plan at) ∙ ap Ok (get_or_from_slice_get plans card plan plan at) in
    record { at = at; planned = planned; two = (numbered election card plan valid planned).some }

-- a page of it
pub page-there : (plan : CardPlan) (slice : List PagePlan) (i : ℕ) (page : PagePlan) → slice ≡ plan.pages → i < length slice → page ≡ get_or slice i page → slice_get plan.pages i ≡ Some page
page-there plan slice i page same below is =
    slice_get_read plan.pages (length slice) i page (ap length same) below (is ∙ ap (λ (xs : List PagePlan). get_or xs i page) same)

pub first-there : (election : Election) (plans : List CardPlan) (card : ℕ) (plan : CardPlan) (front back : PagePlan) → PagesArePlanned → IsValid election → IsCardThere election plans card plan → slice_get plan.pages 0 ≡ Some front → slice_get plan.pages 1 ≡ Some back → IsFirstSheet election plans card front back
first-there election plans card plan front back printed valid it at_0 at_1 = record {
  pages = ap first_sheet it.at ∙ two-taken plan.pages front back at_0 at_1;
  front_planned = printed election card plan 0 front Precinct false valid it.planned at_0;
  back_planned = printed election card plan 1 back Precinct false valid it.planned at_1;
}

-- sums of one page are of one
pub one-each : (election : Election) (trial : Trial) (sums : PageSums) → sums ≡ page_sums election (trial ∷ []) → sums.pages ≡ 1
one-each election trial sums is = ap (λ (s : PageSums). s.pages) is

-- the generator after two pages
pub two-drawn : (election : Election) (card : ℕ) (front back : PagePlan) (g rng next : Lcg)
    → rng ≡ (try_page election card front g).1 → next ≡ (try_page election card back rng).1
    → next ≡ (draw_all (try_page election card) (front ∷ back ∷ []) g).1
two-drawn election card front back g rng next at moved = moved ∙ ap (λ (r : Lcg). (try_page election card back r).1) at
