-- Which options a card's bubbles stand for, and on which page.
use Rattle.std.specs.Prelude.{◌≡◌, ℕ, All, List, map}
use Rattle.std.specs.List.{flat_map, range_with_len}
use Rattle.vx_election_model.specs.declared.contest.Contest.{Contest}
use Rattle.vx_election_model.specs.declared.election.Election.{Election}
use Rattle.vx_election_model.specs.Options.{options_of}
use Rattle.vx_styles.specs.Cards.{contests_of_card}
use Rattle.vx_layout.specs.declared.bubbles.Bubble.{Bubble}
use Rattle.vx_layout.specs.declared.pages.PagePlan.{PagePlan}
use Rattle.vx_layout.specs.declared.plan.CardPlan.{CardPlan}
use Rattle.vx_layout.specs.Flow.{contest_at}

-- the options of a contest, each with the contest's number
abbrev pub options_with : List Contest → ℕ → List (ℕ × ℕ)
options_with contests number =
    map (λ option. (number, option)) (range_with_len 0 (options_of (contest_at contests number)))

-- the options that bubbles stand for
abbrev pub options_shown : List Bubble → List (ℕ × ℕ)
options_shown bubbles = map (λ (bubble : Bubble). (bubble.contest, bubble.option)) bubbles

-- the bubbles of all pages stand for all options of the card's contests, each once and in order
pub record ShowsEachOption (election : Election) (card : ℕ) (plan : CardPlan) : Type 0 where
  pub each :
      flat_map (λ (page : PagePlan). options_shown page.bubbles) plan.pages
      ≡ flat_map (options_with election.contests) (contests_of_card election card)

-- each contest has one page: its bubbles stand on that page alone
pub record GivesEachContestAPage (plan : CardPlan) : Type 0 where
  pub page_for : ℕ → ℕ
  pub each :
      All (λ (page : PagePlan). All (λ (bubble : Bubble). page_for bubble.contest ≡ page.page) page.bubbles) plan.pages
