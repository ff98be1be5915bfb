-- Printed pages: the plan, the code and the print of each.
use Rattle.std.specs.Prelude.{All, ◌≡◌, ◌≤◌, ℕ, ◌-◌, Bool, Ok, Some, slice_get}
use Rattle.vx_plane.specs.Plane.{Pixels, Page, page_of}
use Rattle.vx_grid.specs.declared.kind.Kind.{Kind}
use Rattle.vx_grid.specs.Paper.{page_width, page_height}
use Rattle.vx_election_model.specs.declared.election.Election.{Election}
use Rattle.vx_election_model.specs.Valid.{IsValid}
use Rattle.vx_code.specs.declared.code.PageCode.{PageCode}
use Rattle.vx_code.specs.Code.{tag_of, boxes_of, version_of, IsInRange}
use Rattle.vx_layout.specs.declared.pages.PagePlan.{PagePlan}
use Rattle.vx_layout.specs.declared.plan.CardPlan.{CardPlan}
use Rattle.vx_layout.specs.Plan.{plan_of}
use Rattle.vx_layout.specs.Print.{print_of}
use Rattle.vx_layout.specs.Pages.{IsOnGrid}
use Rattle.vx_layout.specs.Zones.{IsClear, ZonesMeetNoText, AreApart}

-- a page that is printed: its card, its number on the card, the ballot's kind, and whether it is a
-- test ballot's
pub record PrintedPage : Type 0 where
  pub card : ℕ
  pub page : ℕ
  pub kind : Kind
  pub test : Bool

-- the code of a printed page: the version of its paper, what the page is, and the tag of its election
abbrev pub code_of : Election → PrintedPage → PageCode
code_of election printed = record {
  version = version_of election.paper;
  test = printed.test;
  kind = printed.kind;
  card = printed.card;
  page = printed.page;
  tag = tag_of election.digest;
}

-- the plan of a printed page is the page of that number of its card's plan
pub record IsPlanned (election : Election) (printed : PrintedPage) (plan : PagePlan) : Type 0 where
  pub card : CardPlan
  pub card_is : plan_of election printed.card ≡ Ok card
  pub from_one : 1 ≤ printed.page
  pub page_is : slice_get card.pages (printed.page - 1) ≡ Some plan

-- the dark pixels of the paper of a printed page
abbrev pub print_of_page : Election → PagePlan → PrintedPage → Pixels
print_of_page election plan printed = print_of plan (boxes_of (code_of election printed))

-- the printed page as a bitmap of its paper's size
abbrev pub bitmap_of : Election → PagePlan → PrintedPage → Page
bitmap_of election plan printed = page_of page_width (page_height plan.paper) (print_of_page election plan printed)

-- a page of a card's plan is a printed page of that number, for each kind of ballot
abbrev pub PagesArePlanned : Type 0
PagesArePlanned =
    (election : Election) (card : ℕ) (plan : CardPlan) (i : ℕ) (page : PagePlan) (kind : Kind) (test : Bool)
    → IsValid election → plan_of election card ≡ Ok plan → slice_get plan.pages i ≡ Some page
    → IsPlanned election (record { card = card; page = page.page; kind = kind; test = test }) page

-- a printed page is of the election's paper
abbrev pub PrintedHavePaper : Type 0
PrintedHavePaper =
    (election : Election) (printed : PrintedPage) (plan : PagePlan) → IsValid election
    → IsPlanned election printed plan → plan.paper ≡ election.paper

-- a printed page is planned with its number, and its code can be printed
abbrev pub PrintedHaveCodes : Type 0
PrintedHaveCodes =
    (election : Election) (printed : PrintedPage) (plan : PagePlan) → IsValid election
    → IsPlanned election printed plan → (plan.page ≡ printed.page) × IsInRange (code_of election printed)

-- a page on which all keeps clear of what it has to: zones, boxes and texts, and bubbles on the grid
pub record KeepsClear (plan : PagePlan) : Type 0 where
  pub clear : IsClear plan
  pub apart : AreApart plan
  pub on_grid : All (IsOnGrid plan.paper) plan.bubbles

-- a printed page is such a page
abbrev pub PrintedKeepClear : Type 0
PrintedKeepClear =
    (election : Election) (printed : PrintedPage) (plan : PagePlan) → IsValid election
    → IsPlanned election printed plan → KeepsClear plan

-- on a printed page no zone of a bubble meets a text
abbrev pub PrintedZonesMeetNoText : Type 0
PrintedZonesMeetNoText =
    (election : Election) (printed : PrintedPage) (plan : PagePlan) → IsValid election
    → IsPlanned election printed plan → ZonesMeetNoText plan
