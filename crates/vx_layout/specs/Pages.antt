-- How the pages of a planned card are numbered, and where their bubbles stand.
use Rattle.std.specs.Prelude.{◌≡◌, ◌<◌, ◌≤◌, ℕ, ◌+◌, ◌*◌, ◌%◌, All, List, length, slice_get, Some, Ok}
use Rattle.vx_grid.specs.declared.paper.Paper.{Paper}
use Rattle.vx_grid.specs.Grid.{first_contest_row, contest_rows}
use Rattle.vx_election_model.specs.declared.contest.Contest.{Contest}
use Rattle.vx_election_model.specs.declared.election.Election.{Election}
use Rattle.vx_election_model.specs.Options.{options_of}
use Rattle.vx_election_model.specs.Valid.{IsValid}
use Rattle.vx_layout.specs.declared.bubbles.Bubble.{Bubble}
use Rattle.vx_layout.specs.declared.pages.PagePlan.{PagePlan}
use Rattle.vx_layout.specs.declared.plan.CardPlan.{CardPlan}
use Rattle.vx_layout.specs.Flow.{contest_at}
use Rattle.vx_layout.specs.Plan.{plan_of}

-- the plan has its card's number, and an even number of pages, 2 to 62, numbered from 1 in order
pub record IsNumbered (card_number : ℕ) (plan : CardPlan) : Type 0 where
  pub card : plan.card ≡ card_number
  pub card_fits : card_number < 1024
  pub even : length plan.pages % 2 ≡ 0
  pub some : 2 ≤ length plan.pages
  pub few : length plan.pages ≤ 62
  pub number : (i : ℕ) (page : PagePlan) → slice_get plan.pages i ≡ Some page → page.page ≡ i + 1
  pub of : (i : ℕ) (page : PagePlan) → slice_get plan.pages i ≡ Some page → page.of ≡ length plan.pages

-- a bubble stands in grid column 4, 13 or 22 and in one of the paper's rows of contests
pub record IsOnGrid (paper : Paper) (bubble : Bubble) : Type 0 where
  pub column : ℕ
  pub few : column < 3
  pub col : bubble.col ≡ 4 + 9 * column
  pub low : first_contest_row ≤ bubble.row
  pub high : bubble.row < first_contest_row + contest_rows paper

-- a bubble stands for an option that a contest has
pub record NamesOption (contests : List Contest) (bubble : Bubble) : Type 0 where
  pub contest : bubble.contest < length contests
  pub option : bubble.option < options_of (contest_at contests bubble.contest)

-- every bubble of a plan stands on the grid, for an option of the election
pub record StandsOnGrid (election : Election) (plan : CardPlan) : Type 0 where
  pub on_grid : All (λ (page : PagePlan). All (IsOnGrid page.paper) page.bubbles) plan.pages
  pub options : All (λ (page : PagePlan). All (NamesOption election.contests) page.bubbles) plan.pages

-- every page of a plan is of the paper
pub record HasPaper (paper : Paper) (plan : CardPlan) : Type 0 where
  pub each : All (λ (page : PagePlan). page.paper ≡ paper) plan.pages

-- the plans of a valid election are numbered so
abbrev pub PlansAreNumbered : Type 0
PlansAreNumbered =
    (election : Election) (card : ℕ) (plan : CardPlan) → IsValid election → plan_of election card ≡ Ok plan
    → IsNumbered card plan

-- and their bubbles stand so
abbrev pub PlansStandOnGrid : Type 0
PlansStandOnGrid =
    (election : Election) (card : ℕ) (plan : CardPlan) → IsValid election → plan_of election card ≡ Ok plan
    → StandsOnGrid election plan

-- and their pages are of the election's paper
abbrev pub PlansHavePaper : Type 0
PlansHavePaper =
    (election : Election) (card : ℕ) (plan : CardPlan) → IsValid election → plan_of election card ≡ Ok plan
    → HasPaper election.paper plan
