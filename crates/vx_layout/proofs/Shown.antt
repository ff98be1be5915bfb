-- Every option of a card has its one bubble.
use Rattle.std.proofs.Common.{◌≡◌, ℕ, ◌≤◌, List, [], ◌∷◌, ◌++◌, Ok, refl, sym, ap, ◌∙◌, arith}
use Rattle.std.specs.List.{flat_map, range_with_len}
use Rattle.std.proofs.lemmas.List.Folds.{flat_map-map}
use Rattle.vx_base.proofs.Lists.{map-map, map-flat_map, flat_map-same}
use Rattle.vx_grid.specs.declared.paper.Paper.{Paper}
use Rattle.vx_election_model.specs.declared.contest.Contest.{Contest}
use Rattle.vx_election_model.specs.declared.election.Election.{Election}
use Rattle.vx_election_model.specs.Options.{options_of}
use Rattle.vx_election_model.specs.Valid.{IsValid}
use Rattle.vx_styles.specs.Cards.{contests_of_card}
use Rattle.vx_layout.specs.declared.bubbles.Bubble.{Bubble}
use Rattle.vx_layout.specs.declared.pages.PagePlan.{PagePlan}
use Rattle.vx_layout.specs.declared.plan.CardPlan.{CardPlan}
use Rattle.vx_layout.specs.declared.flow.Spot.{Spot}
use Rattle.vx_layout.specs.declared.flow.Block.{Block}
use Rattle.vx_layout.specs.Blocks.{option_bubble, block_bubbles}
use Rattle.vx_layout.specs.Flow.{top, contest_at, end_of_block, blocks_from, end_from, page_of, column_of, row_of}
use Rattle.vx_layout.specs.Plan.{bubbles_of, on_page, plan_of}
use Rattle.vx_layout.specs.Options.{options_with, options_shown, ShowsEachOption}
use Rattle.vx_layout.proofs.Paged.{all-paged}
use Rattle.vx_layout.proofs.Parts.{blocks_of, count_of, page_at, parts-of_plan}

-- the bubbles of a block stand for its contest's options
shown-block : (contests : List Contest) (block : Block) → options_shown (bubbles_of contests block) ≡ options_with contests block.contest
unfolding block_bubbles
shown-block contests block =
    map-map (λ (bubble : Bubble). (bubble.contest, bubble.option))
    (option_bubble block.contest (contest_at contests block.contest) (column_of block.spot) (row_of block.spot))
    (range_with_len 0 (options_of (contest_at contests block.contest)))

-- the blocks stand for the contests
shown-blocks : (paper : Paper) (contests : List Contest) (spot : Spot) (numbers : List ℕ) → flat_map (λ (block : Block). options_with contests block.contest) (blocks_from paper contests spot numbers) ≡ flat_map (options_with contests) numbers
shown-blocks paper contests spot [] = refl
shown-blocks paper contests spot (number ∷ numbers) =
    ap (λ (rest : List (ℕ × ℕ)). options_with contests number ++ rest) (shown-blocks paper contests (end_of_block paper contests spot number) numbers)

shown-page : (contests : List Contest) (blocks : List Block) → options_shown (flat_map (bubbles_of contests) blocks) ≡ flat_map (λ (block : Block). options_with contests block.contest) blocks
shown-page contests blocks =
    map-flat_map (λ (bubble : Bubble). (bubble.contest, bubble.option)) (bubbles_of contests) blocks
    ∙ flat_map-same (λ (block : Block). options_shown (bubbles_of contests block)) (λ (block : Block). options_with contests block.contest) blocks (shown-block contests)

-- every option of a planned card has its bubble
pub each-option_shown : (election : Election) (number : ℕ) (plan : CardPlan) → IsValid election → plan_of election number ≡ Ok plan → ShowsEachOption election number plan
each-option_shown election number plan valid h =
    let is = parts-of_plan election number plan valid h in
    let paper = election.paper in
    let contests = election.contests in
    let numbers = contests_of_card election number in
    let blocks = blocks_of election number in
    let count = count_of election number in
    let enough : page_of (end_from paper contests top numbers) ≤ count = omega arith in
    record {
      each =
          ap (λ (p : CardPlan). flat_map (λ (page : PagePlan). options_shown page.bubbles) p.pages) (sym is.is)
          ∙ flat_map-map (λ (page : PagePlan). options_shown page.bubbles) (page_at election number) (range_with_len 1 count)
          ∙ flat_map-same (λ page. options_shown (flat_map (bubbles_of contests) (on_page page blocks))) (λ page. flat_map (λ (block : Block). options_with contests block.contest) (on_page page blocks)) (range_with_len 1 count) (λ page. shown-page contests (on_page page blocks))
          ∙ all-paged (λ (block : Block). options_with contests block.contest) paper contests top numbers count enough
          ∙ shown-blocks paper contests top numbers;
    }
