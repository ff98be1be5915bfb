-- All pages of a demo are so, and what it wrote says so.
use Rattle.std.proofs.Common.{◌≡◌, ℕ, ◌-◌, ◌*◌, ◌%◌, ◌<◌, ◌≤◌, true, false, List, [], ◌∷◌, length, take, refl, ap, ◌∙◌, arith, length-append, mod-lt, lit<}
use Rattle.std.specs.Prelude.{All, Option, None, Some, Result, Ok, Err, slice_get}
use Rattle.std.specs.List.{range_with_len}
use Rattle.std.proofs.lemmas.List.Elements.{All-nil, All-cons, All-head, All-tail}
use Rattle.std.proofs.lemmas.List.FromFn.{length-range_with_len}
use Rattle.std.proofs.lemmas.Option.{get_or_from_slice_get, slice_get_within, slice_get-get_or}
use Rattle.vx_base.proofs.Lists.{All-always, All-flat_map}
use Rattle.rand_pcg.specs.Lcg.{Lcg}
use Rattle.vx_election_model.specs.declared.election.Election.{Election}
use Rattle.vx_election_model.specs.Valid.{IsValid}
use Rattle.vx_election.specs.declared.fault.ElectionFault.{ElectionFault}
use Rattle.vx_election.specs.Laws.{DefinedElectionsAreValid}
use Rattle.vx_election.specs.Reading.{election_of}
use Rattle.vx_grid.specs.declared.kind.Kind.TheVariants.{Precinct}
use Rattle.vx_layout.specs.declared.pages.PagePlan.{PagePlan}
use Rattle.vx_layout.specs.declared.plan.CardPlan.{CardPlan}
use Rattle.vx_layout.specs.declared.fault.CardFault.{CardFault}
use Rattle.vx_layout.specs.Pages.{PlansAreNumbered}
use Rattle.vx_layout.specs.Plan.{plan_of}
use Rattle.vx_layout.specs.Plans.{ArePlansOf}
use Rattle.vx_layout.specs.Printed.{IsPlanned, PagesArePlanned}
use Rattle.vx_command.specs.Elections.{election_read, plans_made}
use Rattle.vx_command_demo.specs.Election.{demo_text}
use Rattle.vx_command_demo.specs.Outcome.{election_defined}
use Rattle.vx_command_demo.specs.Trials.{Trial, first_sheet, generator_of, printed_page, sheets_of, try_card, try_page, try_sheet}
use Rattle.vx_command_demo.specs.Sums.{is_as_truth, is_certified}
use Rattle.vx_command_demo.specs.Summary.{pages_in}
use Rattle.vx_certified.specs.Truth.{AreTrue}
use Rattle.vx_certified.proofs.Drawing.{all-drawn, count-all, many-drawn}
use Rattle.vx_certified.proofs.DemoPages.{IsTrue_}

-- cards that were planned
pub planned : (r : Result (List CardPlan) CardFault) (plans : List CardPlan) → plans_made r ≡ Ok plans → r ≡ Ok plans
planned (Ok some) plans is = let same : some ≡ plans = cc in ap Ok same
planned (Err fault) plans is = absurd cc

-- the demo election is valid where it is defined
read-well : (r : Result Election ElectionFault) (election : Election) → election_read r ≡ Ok election → r ≡ Ok election
read-well (Ok some) election is = let same : some ≡ election = cc in ap Ok same
read-well (Err fault) election is = absurd cc

pub defined : DefinedElectionsAreValid → (election : Election) → election_defined ≡ Ok election → IsValid election
unfolding election_defined
defined law election is = law demo_text election (read-well (election_of demo_text) election is)

-- of a list of trials each of which is true
true-pages : (election : Election) (trials : List Trial) → All (IsTrue_ election) trials → AreTrue election trials
true-pages election trials all = record {
  as_truth = count-all (is_as_truth election) trials (so-all (λ trial. is_as_truth election trial ≡ true) (λ trial it. it.as_truth) trials all);
  certified = count-all (is_certified election) trials (so-all (λ trial. is_certified election trial ≡ true) (λ trial it. it.certified) trials all);
}
  where
    so-all : (P : Trial → Type 0) → ((trial : Trial) → IsTrue_ election trial → P trial) → (trials : List Trial) → All (IsTrue_ election) trials → All P trials
    so-all P each [] all = All-nil P
    so-all P each (trial ∷ trials) all = All-cons P trial trials (each trial (All-head (IsTrue_ election) trial trials all)) (so-all P each trials (All-tail (IsTrue_ election) trial trials all))

-- two of each
pairs : (sheets : List (List Trial)) → All (λ (trials : List Trial). length trials ≡ 2) sheets → length (pages_in sheets) ≡ 2 * length sheets
pairs [] all = refl
pairs (trials ∷ sheets) all =
    let here : length trials ≡ 2 = All-head (λ (trials : List Trial). length trials ≡ 2) trials sheets all in
    let rest : length (pages_in sheets) ≡ 2 * length sheets = pairs sheets (All-tail (λ (trials : List Trial). length trials ≡ 2) trials sheets all) in
    omega (arith, length-append trials (pages_in sheets), here, rest)

module _ (election : Election) (plans : List CardPlan) (valid : IsValid election) (are : ArePlansOf election plans) (numbered : PlansAreNumbered) (planned_pages : PagesArePlanned) (page-true : (card : ℕ) (plan : PagePlan) (g : Lcg) → IsPlanned election (printed_page card plan) plan → IsTrue_ election (try_page election card plan g).0) where
  -- the plan of a card
  card-planned : (card : ℕ) (plan : CardPlan) → slice_get plans card ≡ Some plan → plan_of election card ≡ Ok plan
  card-planned card plan at = are.each card plan (slice_get_within plans card plan at) ∙ ap Ok (get_or_from_slice_get plans card plan plan at)

  page-planned : (card : ℕ) (plan : CardPlan) (i : ℕ) (page : PagePlan) → slice_get plans card ≡ Some plan → slice_get plan.pages i ≡ Some page → IsPlanned election (printed_page card page) page
  page-planned card plan i page at on = planned_pages election card plan i page Precinct false valid (card-planned card plan at) on

  abbrev Planned : ℕ → PagePlan → Type 0
  Planned card page = IsPlanned election (printed_page card page) page

  pages-planned : (card : ℕ) (plan : CardPlan) → slice_get plans card ≡ Some plan → (pages : List PagePlan) → plan.pages ≡ pages → All (Planned card) (take 2 pages)
  pages-planned card plan at [] is = All-nil (Planned card)
  pages-planned card plan at (front ∷ []) is =
      All-cons (Planned card) front [] (page-planned card plan 0 front at (ap (λ (pages : List PagePlan). slice_get pages 0) is)) (All-nil (Planned card))
  pages-planned card plan at (front ∷ back ∷ more) is =
      All-cons (Planned card) front (back ∷ []) (page-planned card plan 0 front at (ap (λ (pages : List PagePlan). slice_get pages 0) is))
      (All-cons (Planned card) back [] (page-planned card plan 1 back at (ap (λ (pages : List PagePlan). slice_get pages 1) is)) (All-nil (Planned card)))

  sheet-planned : (card : ℕ) (found : Option CardPlan) → slice_get plans card ≡ found → All (Planned card) (first_sheet found)
  sheet-planned card None at = All-nil (Planned card)
  sheet-planned card (Some plan) at = pages-planned card plan at plan.pages refl

  card-true : (card : ℕ) (g : Lcg) → All (IsTrue_ election) (try_card election plans card g).0
  card-true card g =
      all-drawn (Planned card) (IsTrue_ election) (try_page election card) (λ page state is. page-true card page state is)
      (first_sheet (slice_get plans card)) g (sheet-planned card (slice_get plans card) refl)

  all-true : (seed sheets : ℕ) → AreTrue election (pages_in (sheets_of election plans seed sheets))
  all-true seed sheets =
      true-pages election (pages_in (sheets_of election plans seed sheets))
      (All-flat_map (IsTrue_ election) (λ (trials : List Trial). trials) (sheets_of election plans seed sheets)
      (all-drawn (λ (sheet : ℕ). Unit {0}) (λ (trials : List Trial). All (IsTrue_ election) trials) (try_sheet election plans)
      (λ sheet g any. card-true ((sheet - 1) % 3) g) (range_with_len 1 sheets) (generator_of seed)
      (All-always (λ (sheet : ℕ). Unit {0}) (range_with_len 1 sheets) (λ sheet. tt))))

  -- the two pages of a card's first sheet
  two-taken : (pages : List PagePlan) → 2 ≤ length pages → length (take 2 pages) ≡ 2
  two-taken [] some = absurd (omega (arith, some))
  two-taken (a ∷ []) some = absurd (omega (arith, some))
  two-taken (a ∷ b ∷ more) some = refl

  two-found : (card : ℕ) (found : Option CardPlan) → slice_get plans card ≡ found → card < length plans → length (first_sheet found) ≡ 2
  two-found card None at there = absurd (none (slice_get-get_or plans card (record { card = 0; pages = []; hollow = 0 }) there))
    where
      none : {x : CardPlan} → slice_get plans card ≡ Some x → ⊥
      none some = cc
  two-found card (Some plan) at there = two-taken plan.pages (numbered election card plan valid (card-planned card plan at)).some

  two-tried : 3 ≤ length plans → (sheet : ℕ) (g : Lcg) → length (try_sheet election plans sheet g).0 ≡ 2
  two-tried three sheet g =
      let card : ℕ = (sheet - 1) % 3 in
      let few : card < 3 = mod-lt (sheet - 1) (lit< tt) in
      many-drawn (try_page election card) (first_sheet (slice_get plans card)) g
      ∙ two-found card (slice_get plans card) refl (omega (arith, few, three))

  all-pairs : (seed sheets : ℕ) → 3 ≤ length plans → length (pages_in (sheets_of election plans seed sheets)) ≡ 2 * sheets
  all-pairs seed sheets three =
      let many : length (sheets_of election plans seed sheets) ≡ sheets = many-drawn (try_sheet election plans) (range_with_len 1 sheets) (generator_of seed) ∙ length-range_with_len 1 sheets in
      let both : length (pages_in (sheets_of election plans seed sheets)) ≡ 2 * length (sheets_of election plans seed sheets) =
      pairs (sheets_of election plans seed sheets)
      (all-drawn (λ (sheet : ℕ). Unit {0}) (λ (trials : List Trial). length trials ≡ 2) (try_sheet election plans)
      (λ sheet g any. two-tried three sheet g) (range_with_len 1 sheets) (generator_of seed)
      (All-always (λ (sheet : ℕ). Unit {0}) (range_with_len 1 sheets) (λ sheet. tt))) in
      both ∙ ap (λ (n : ℕ). 2 * n) many

  pub demo-true : (seed sheets : ℕ) → AreTrue election (pages_in (sheets_of election plans seed sheets)) × (3 ≤ length plans → length (pages_in (sheets_of election plans seed sheets)) ≡ 2 * sheets)
  demo-true seed sheets = (all-true seed sheets, all-pairs seed sheets)
