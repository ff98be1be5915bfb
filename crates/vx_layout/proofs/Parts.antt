-- A plan, taken apart: how many pages it has, and what holds of each of them.
use Rattle.std.proofs.Common.{◌≡◌, ℕ, ◌+◌, ◌%◌, ◌≤◌, ◌<◌, List, length, map, Bool, true, false, cond, Ok, Err, refl, subst, sym, ap, ◌∙◌, arith}
use Rattle.std.specs.Prelude.{All, Result, slice_get, Some, nat_lt}
use Rattle.std.specs.List.{range_with_len}
use Rattle.std.proofs.lemmas.List.FromFn.{length-map-range_with_len}
use Rattle.vx_base.proofs.Booleans.{chosen-if}
use Rattle.vx_base.proofs.Numbers.{below-yes, below-no, below-from_yes, below-from_no}
use Rattle.vx_base.proofs.Results.{bind_ok}
use Rattle.vx_election_model.specs.declared.election.Election.{Election}
use Rattle.vx_election_model.specs.Valid.{IsValid}
use Rattle.vx_styles.specs.Cards.{cards_of, card_at, contests_of_card}
use Rattle.vx_layout.specs.declared.pages.PagePlan.{PagePlan}
use Rattle.vx_layout.specs.declared.plan.CardPlan.{CardPlan}
use Rattle.vx_layout.specs.declared.flow.Block.{Block}
use Rattle.vx_layout.specs.declared.fault.LayoutFault.{LayoutFault}
use Rattle.vx_layout.specs.declared.fault.LayoutFault.TheVariants.{TooManyPages, NoCard}
use Rattle.vx_layout.specs.Flow.{top, blocks_from, IsPlaced, even_up}
use Rattle.vx_layout.specs.Plan.{page_plan, pages_of, card_plan, contests_checked, plan_with, plan_of_card, plan_of}
use Rattle.vx_layout.specs.Pages.{IsNumbered}
use Rattle.vx_layout.proofs.Cards.{contests-there}
use Rattle.vx_layout.proofs.Made.{All-made, made-at}
use Rattle.vx_layout.proofs.Placing.{All-placed}
use Rattle.vx_layout.proofs.Printable.{stand-from_checked}
use Rattle.vx_layout.proofs.Sizes.{sizes-from_valid}

-- the blocks of a card, its number of pages, and the page with a number
abbrev pub blocks_of : Election → ℕ → List Block
blocks_of election number = blocks_from election.paper election.contests top (contests_of_card election number)

abbrev pub count_of : Election → ℕ → ℕ
count_of election number = pages_of election.paper election.contests (contests_of_card election number)

abbrev pub page_at : Election → ℕ → ℕ → PagePlan
page_at election number page =
    page_plan election (card_at election number) (blocks_of election number) (count_of election number) page

-- a plan of the definition: its pages are made by their numbers, of blocks that stand in their columns
pub record IsPlan (election : Election) (number : ℕ) (plan : CardPlan) : Type 0 where
  pub there : number < length (cards_of election)
  pub few : count_of election number ≤ 63
  pub placed : All (IsPlaced election.paper election.contests) (blocks_of election number)
  pub is : card_plan number (map (page_at election number) (range_with_len 1 (count_of election number))) ≡ plan

within : (b : Bool) (fault : LayoutFault) (made plan : CardPlan) → cond b (Err fault) (Ok made) ≡ Ok plan → (b ≡ false) × (made ≡ plan)
within true fault made plan h = absurd (cc)
within false fault made plan h = (refl, cc)

-- what is planned is that
pub parts-of_plan : (election : Election) (number : ℕ) (plan : CardPlan) → IsValid election → plan_of election number ≡ Ok plan → IsPlan election number plan
unfolding plan_of
parts-of_plan election number plan valid h =
    let paper = election.paper in
    let contests = election.contests in
    let numbers = contests_of_card election number in
    let count = count_of election number in
    let made = card_plan number (map (page_at election number) (range_with_len 1 count)) in
    let with = plan_with election number (card_at election number) numbers count in
    let first = chosen-if (nat_lt number (length (cards_of election))) (plan_of_card election number) (NoCard (length (cards_of election))) plan h in
    let second = bind_ok (contests_checked paper contests numbers) (λ _. with) plan first.1 in
    let third = within (nat_lt 63 count) (TooManyPages count) made plan second.2 in
    record {
      there = below-from_yes number (length (cards_of election)) first.0;
      few = below-from_no 63 count third.0;
      placed = All-placed paper contests top numbers (stand-from_checked paper contests numbers (sizes-from_valid election valid) (contests-there election number) second.1);
      is = third.1;
    }

-- the answer where the card is there, and where it isn't
pub plan-there : (election : Election) (number : ℕ) → number < length (cards_of election) → plan_of election number ≡ plan_of_card election number
unfolding plan_of
plan-there election number there =
    let none : Result CardPlan LayoutFault = Err (NoCard (length (cards_of election))) in
    ap (λ (b : Bool). cond b (plan_of_card election number) none) (below-yes number (length (cards_of election)) there)

pub plan-past : (election : Election) (number : ℕ) → length (cards_of election) ≤ number → plan_of election number ≡ Err (NoCard (length (cards_of election)))
unfolding plan_of
plan-past election number past =
    let none : Result CardPlan LayoutFault = Err (NoCard (length (cards_of election))) in
    ap (λ (b : Bool). cond b (plan_of_card election number) none) (below-no number (length (cards_of election)) past)

-- what holds of each page that is made so holds of all pages of the plan
pub All-pages : (P : PagePlan → Type 0) (election : Election) (number : ℕ) (plan : CardPlan) → IsPlan election number plan → ((page : ℕ) → P (page_at election number page)) → All P plan.pages
All-pages P election number plan is each =
    let Have : CardPlan → Type 0 = λ p. All P p.pages in
    subst Have is.is (All-made P (page_at election number) 1 (count_of election number) (λ page low high. each page))

even-up : (pages : ℕ) → even_up pages % 2 ≡ 0
even-up pages = omega arith

-- the pages of a plan are numbered
pub planned-numbered : (election : Election) (number : ℕ) (plan : CardPlan) → length (cards_of election) ≤ 1024 → IsValid election → plan_of election number ≡ Ok plan → IsNumbered number plan
planned-numbered election number plan fits valid h =
    let is = parts-of_plan election number plan valid h in
    let make = page_at election number in
    let count = count_of election number in
    let pages : map make (range_with_len 1 count) ≡ plan.pages = ap (λ (p : CardPlan). p.pages) is.is in
    let counted : length plan.pages ≡ count = ap length (sym pages) ∙ length-map-range_with_len make 1 count in
    let at : (i : ℕ) (page : PagePlan) → slice_get plan.pages i ≡ Some page → page ≡ make (1 + i) =
    λ i page there. let Has : List PagePlan → Type 0 = λ l. slice_get l i ≡ Some page in made-at make 1 count i page (subst Has (sym pages) there) in
    record {
      card = ap (λ (p : CardPlan). p.card) (sym is.is);
      card_fits = omega (arith, is.there, fits);
      even = ap (λ (n : ℕ). n % 2) counted ∙ even-up _;
      some = omega (arith, counted);
      few = omega (arith, counted, is.few);
      number = λ i page there. ap (λ (p : PagePlan). p.page) (at i page there) ∙ omega arith;
      of = λ i page there. ap (λ (p : PagePlan). p.of) (at i page there) ∙ sym counted;
    }
