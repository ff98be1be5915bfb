-- A contest has one block, so its bubbles stand on one page.
use Rattle.std.proofs.Common.{◌≡◌, ℕ, ◌<◌, List, [], ◌∷◌, get_or, Bool, cond, Ok, refl, ap, ◌∙◌, arith, ◌==◌}
use Rattle.std.specs.Prelude.{All}
use Rattle.std.specs.List.{flat_map}
use Rattle.std.proofs.lemmas.List.Elements.{All-nil, All-cons, All-head, All-tail, All-filter, filter_passes}
use Rattle.vx_base.proofs.Lists.{All-flat_map}
use Rattle.vx_base.proofs.Numbers.{equal-yes, equal-no, equal-from_yes}
use Rattle.vx_grid.specs.declared.paper.Paper.{Paper}
use Rattle.vx_election_model.specs.declared.contest.Contest.{Contest}
use Rattle.vx_election_model.specs.declared.election.Election.{Election}
use Rattle.vx_election_model.specs.Options.{options_of}
use Rattle.vx_election_model.specs.Valid.{IsValid}
use Rattle.vx_styles.specs.Cards.{contests_of_card}
use Rattle.vx_layout.specs.declared.bubbles.Bubble.{Bubble}
use Rattle.vx_layout.specs.declared.pages.PagePlan.{PagePlan}
use Rattle.vx_layout.specs.declared.plan.CardPlan.{CardPlan}
use Rattle.vx_layout.specs.declared.flow.Spot.{Spot}
use Rattle.vx_layout.specs.declared.flow.Block.{Block}
use Rattle.vx_layout.specs.Blocks.{option_bubble, block_bubbles}
use Rattle.vx_layout.specs.Flow.{top, contest_at, block_at, end_of_block, blocks_from, page_of, column_of, row_of}
use Rattle.vx_layout.specs.Options.{GivesEachContestAPage}
use Rattle.vx_layout.specs.Plan.{bubbles_of, on_page, plan_of}
use Rattle.vx_layout.proofs.Cards.{Rising, contests-rise}
use Rattle.vx_layout.proofs.Made.{All-made}
use Rattle.vx_layout.proofs.Parts.{blocks_of, parts-of_plan, All-pages}

-- the page of the first block of a contest
abbrev page_in : List Block → ℕ → ℕ
page_in [] number = 0
page_in (block ∷ blocks) number = cond (block.contest == number) (page_of block.spot) (page_in blocks number)

blocks-rise : (paper : Paper) (contests : List Contest) (least : ℕ) (spot : Spot) (numbers : List ℕ) → All (λ n. least < n) numbers → All (λ (b : Block). least < b.contest) (blocks_from paper contests spot numbers)
blocks-rise paper contests least spot [] are = All-nil (λ (b : Block). least < b.contest)
blocks-rise paper contests least spot (number ∷ numbers) are =
    All-cons (λ (b : Block). least < b.contest) (block_at paper contests spot number) (blocks_from paper contests (end_of_block paper contests spot number) numbers)
    (All-head (λ n. least < n) number numbers are)
    (blocks-rise paper contests least (end_of_block paper contests spot number) numbers (All-tail (λ n. least < n) number numbers are))

past-first : (first : Block) (rest : List Block) (b : Block) → first.contest < b.contest → page_in rest b.contest ≡ page_of b.spot → page_in (first ∷ rest) b.contest ≡ page_of b.spot
past-first first rest b less is =
    ap (λ (same : Bool). cond same (page_of first.spot) (page_in rest b.contest)) (equal-no first.contest b.contest (λ same. omega (arith, same, less))) ∙ is

-- that is the page of each block, as no two are of one contest
own-page : (paper : Paper) (contests : List Contest) (spot : Spot) (numbers : List ℕ) → Rising numbers → All (λ (b : Block). page_in (blocks_from paper contests spot numbers) b.contest ≡ page_of b.spot) (blocks_from paper contests spot numbers)
own-page paper contests spot [] rising = All-nil (λ (b : Block). page_in [] b.contest ≡ page_of b.spot)
own-page paper contests spot (number ∷ numbers) rising =
    let first = block_at paper contests spot number in
    let next = end_of_block paper contests spot number in
    let rest = blocks_from paper contests next numbers in
    let later = blocks-rise paper contests number next numbers rising.0 in
    let own = own-page paper contests next numbers rising.1 in
    All-cons (λ (b : Block). page_in (first ∷ rest) b.contest ≡ page_of b.spot) first rest
    (ap (λ (same : Bool). cond same (page_of first.spot) (page_in rest number)) (equal-yes number number refl))
    (λ i d h. past-first first rest (get_or rest i d) (later i d h) (own i d h))

-- the bubbles of a block are of its contest
of-block : (page_for : ℕ → ℕ) (page : ℕ) (contests : List Contest) (block : Block) → page_for block.contest ≡ page → All (λ (bubble : Bubble). page_for bubble.contest ≡ page) (bubbles_of contests block)
unfolding block_bubbles
of-block page_for page contests block h =
    All-made (λ (bubble : Bubble). page_for bubble.contest ≡ page) (option_bubble block.contest (contest_at contests block.contest) (column_of block.spot) (row_of block.spot))
    0 (options_of (contest_at contests block.contest)) (λ option from below. h)

on-own_page : (page_for : ℕ → ℕ) (page : ℕ) (contests : List Contest) (blocks : List Block) → All (λ (b : Block). page_for b.contest ≡ page_of b.spot) blocks → All (λ (bubble : Bubble). page_for bubble.contest ≡ page) (flat_map (bubbles_of contests) (on_page page blocks))
on-own_page page_for page contests blocks own =
    let test = λ (b : Block). page_of b.spot == page in
    let there = All-filter test (λ (b : Block). page_for b.contest ≡ page_of b.spot) blocks own in
    let on = filter_passes test blocks in
    All-flat_map (λ (bubble : Bubble). page_for bubble.contest ≡ page) (bubbles_of contests) (on_page page blocks)
    (λ i d h.
    let block = get_or (on_page page blocks) i d in
    of-block page_for page contests block (there i d h ∙ equal-from_yes (page_of block.spot) page (on i d h)))

-- in every plan each contest has its page
pub page-for_contests : (election : Election) (number : ℕ) (plan : CardPlan) → IsValid election → plan_of election number ≡ Ok plan → GivesEachContestAPage plan
page-for_contests election number plan valid h =
    let paper = election.paper in
    let contests = election.contests in
    let blocks = blocks_of election number in
    let own = own-page paper contests top (contests_of_card election number) (contests-rise election number) in
    record {
      page_for = page_in blocks;
      each =
          All-pages (λ (page : PagePlan). All (λ (bubble : Bubble). page_in blocks bubble.contest ≡ page.page) page.bubbles) election number plan (parts-of_plan election number plan valid h)
          (λ page. on-own_page (page_in blocks) page contests blocks own);
    }
