-- Pages of planned cards are printed pages, with codes in their ranges.
use Rattle.std.proofs.Common.{◌≡◌, List, ◌+◌, ◌-◌, ◌<◌, ◌≤◌, ℕ, Some, arith, ap, sym, ◌∙◌, subst, lit<}
use Rattle.std.specs.Prelude.{All, slice_get}
use Rattle.std.proofs.lemmas.Option.{slice_get_within, get_or_from_slice_get}
use Rattle.vx_grid.specs.declared.paper.Paper.{Paper}
use Rattle.vx_grid.specs.declared.paper.Paper.TheVariants.{Letter, Legal}
use Rattle.vx_code.specs.Code.{version_of, TagsAreInRange}
use Rattle.vx_layout.specs.declared.pages.PagePlan.{PagePlan}
use Rattle.vx_layout.specs.Pages.{PlansAreNumbered, PlansHavePaper}
use Rattle.vx_layout.specs.Printed.{PagesArePlanned, PrintedHaveCodes, PrintedHavePaper}

-- a page of a card's plan is planned, as a page of its number
pub pages-planned : PlansAreNumbered → PagesArePlanned
pages-planned numbered election card plan i page kind test valid planned at =
    let number : page.page ≡ i + 1 = (numbered election card plan valid planned).number i page at in
    let index : i ≡ page.page - 1 = omega arith in
    let At : ℕ → Type 0 = λ n. slice_get plan.pages n ≡ Some page in
    record {
      card = plan;
      card_is = planned;
      from_one = omega arith;
      page_is = subst At index at;
    }

-- a printed page is of the election's paper
pub printed-paper : PlansHavePaper → PrintedHavePaper
printed-paper have election printed plan valid is =
    let pages = is.card.pages in
    let i = printed.page - 1 in
    ap (λ (page : PagePlan). page.paper) (sym (get_or_from_slice_get pages i plan plan is.page_is))
    ∙ (have election printed.card is.card valid is.card_is).each i plan (slice_get_within pages i plan is.page_is)

version-fits : (paper : Paper) → version_of paper < 8
version-fits Letter = lit< tt
version-fits Legal = lit< tt

-- a printed page has its number, and its code is in its ranges
pub printed-codes : PlansAreNumbered → TagsAreInRange → PrintedHaveCodes
printed-codes numbered tags election printed plan valid is =
    let card = numbered election printed.card is.card valid is.card_is in
    let from : 1 ≤ printed.page = is.from_one in
    let inside = slice_get_within is.card.pages (printed.page - 1) plan is.page_is in (
      omega (arith, card.number (printed.page - 1) plan is.page_is),
      record {
        version_fits = version-fits election.paper;
        card_fits = card.card_fits;
        page_fits = omega (arith, inside, card.few);
        tag_fits = tags election.digest;
      },
    )

-- what holds of all pages holds of one
pub of-page : (pages : List PagePlan) (i : ℕ) (plan : PagePlan) → slice_get pages i ≡ Some plan → (P : PagePlan → Type 0) → All P pages → P plan
of-page pages i plan at P all = subst P (get_or_from_slice_get pages i plan plan at) (all i plan (slice_get_within pages i plan at))
