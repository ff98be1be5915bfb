-- The bubbles of a page stand in order, so no two of them come too near to one another.
use Rattle.std.proofs.Common.{◌≡◌, ◌≢◌, ℕ, zero, suc, ◌+◌, ◌*◌, ◌%◌, ◌≤◌, ◌<◌, ◌⊎◌, inl, inr, ⊎_elim, List, [], ◌∷◌, ◌++◌, length, map, get_or, Bool, true, false, cond, Ok, refl, sym, ap, ◌∙◌, subst, arith, ◌==◌}
use Rattle.std.specs.Prelude.{All, nat_le}
use Rattle.std.specs.List.{flat_map, range_with_len}
use Rattle.std.proofs.lemmas.Bool.{cases_lt}
use Rattle.std.proofs.lemmas.List.Elements.{All-nil, All-cons, All-head, All-tail, All-append, All-filter, All-weaker, All-get_or, filter_passes}
use Rattle.vx_base.proofs.Lists.{All-flat_map}
use Rattle.vx_base.proofs.Numbers.{equal-from_yes}
use Rattle.vx_grid.specs.declared.paper.Paper.{Paper}
use Rattle.vx_grid.specs.Grid.{contest_rows}
use Rattle.vx_election_model.specs.declared.contest.Contest.{Contest}
use Rattle.vx_election_model.specs.declared.election.Election.{Election}
use Rattle.vx_election_model.specs.Options.{options_of}
use Rattle.vx_election_model.specs.Valid.{IsValid}
use Rattle.vx_styles.specs.Cards.{contests_of_card}
use Rattle.vx_layout.specs.declared.bubbles.Bubble.{Bubble}
use Rattle.vx_layout.specs.declared.plan.CardPlan.{CardPlan}
use Rattle.vx_layout.specs.declared.flow.Spot.{Spot}
use Rattle.vx_layout.specs.declared.flow.Block.{Block}
use Rattle.vx_layout.specs.Blocks.{height_of, option_bubble, block_bubbles}
use Rattle.vx_layout.specs.Flow.{top, start_of, below, contest_at, block_at, end_of_block, blocks_from, page_of, column_of, row_of}
use Rattle.vx_layout.specs.Pages.{IsOnGrid}
use Rattle.vx_layout.specs.Plan.{bubbles_of, on_page, plan_of}
use Rattle.vx_layout.specs.Zones.{bubble_zone_of, bubble_box_of, Apart, AreApart, AreApartInPlan}
use Rattle.vx_layout.proofs.Extents.{apart-lies, lies-zone, lies-box}
use Rattle.vx_layout.proofs.Made.{All-made}
use Rattle.vx_layout.proofs.Paged.{on-yes, on-no}
use Rattle.vx_layout.proofs.Parts.{blocks_of, parts-of_plan, All-pages}
use Rattle.vx_layout.proofs.Standing.{grid-page}

-- one bubble stands in an earlier column, or above in the same one
abbrev Before : Bubble → Bubble → Type 0
Before a b = (a.col < b.col) ⊎ ((a.col ≡ b.col) × (a.row < b.row))

abbrev Ordered : List Bubble → Type 0
Ordered [] = Unit {0}
Ordered (b ∷ bs) = All (Before b) bs × Ordered bs

ordered-append : (xs ys : List Bubble) → Ordered xs → Ordered ys → All (λ (x : Bubble). All (Before x) ys) xs → Ordered (xs ++ ys)
ordered-append [] ys first second between = second
ordered-append (x ∷ xs) ys first second between = (
  All-append (Before x) xs ys first.0 (All-head (λ (x : Bubble). All (Before x) ys) x xs between),
  ordered-append xs ys first.1 second (All-tail (λ (x : Bubble). All (Before x) ys) x xs between),
)

ordered-get : (bs : List Bubble) → Ordered bs → (i j : ℕ) (d : Bubble) → i < j → j < length bs → Before (get_or bs i d) (get_or bs j d)
ordered-get [] ordered i j d less within = absurd (omega arith)
ordered-get (b ∷ bs) ordered i zero d less within = absurd (omega arith)
ordered-get (b ∷ bs) ordered zero (suc j) d less within = All-get_or (Before b) bs j d (omega arith) ordered.0
ordered-get (b ∷ bs) ordered (suc i) (suc j) d less within = ordered-get bs ordered.1 i j d (omega arith) (omega arith)

ordered-options : (number : ℕ) (contest : Contest) (col row a n : ℕ) → Ordered (map (option_bubble number contest col row) (range_with_len a n))
ordered-options number contest col row a zero = tt
ordered-options number contest col row a (suc n) = (
  All-made (Before (option_bubble number contest col row a)) (option_bubble number contest col row) (a + 1) n (λ k low high. inr (refl, omega (arith, low))),
  ordered-options number contest col row (a + 1) n,
)

ordered-block : (number : ℕ) (contest : Contest) (col row : ℕ) → Ordered (block_bubbles number contest col row)
unfolding block_bubbles
ordered-block number contest col row = ordered-options number contest col row 0 (options_of contest)

-- one spot comes no later than another
abbrev NoLater : Spot → Spot → Type 0
NoLater a b = (a.column < b.column) ⊎ ((a.column ≡ b.column) × (a.row ≤ b.row))

no-later-trans : (a b c : Spot) → NoLater a b → NoLater b c → NoLater a c
no-later-trans a b c (inl h) (inl k) = inl (omega arith)
no-later-trans a b c (inl h) (inr k) = inl (omega (arith, h, k.0))
no-later-trans a b c (inr h) (inl k) = inl (omega (arith, h.0, k))
no-later-trans a b c (inr h) (inr k) = inr (omega (arith, h.0, k.0), omega (arith, h.1, k.1))

start-cases : (b : Bool) (spot : Spot) → NoLater spot (cond b spot (record { column = spot.column + 1; row = 0 }))
start-cases true spot = inr (refl, omega arith)
start-cases false spot = inl (omega arith)

no-later-start : (paper : Paper) (spot : Spot) (rows : ℕ) → NoLater spot (start_of paper spot rows)
no-later-start paper spot rows = start-cases (nat_le (spot.row + rows) (contest_rows paper)) spot

no-later-below : (spot : Spot) (rows : ℕ) → NoLater spot (below spot rows)
no-later-below spot rows = inr (refl, omega arith)

blocks-after : (paper : Paper) (contests : List Contest) (at spot : Spot) (numbers : List ℕ) → NoLater at spot → All (λ (b : Block). NoLater at b.spot) (blocks_from paper contests spot numbers)
blocks-after paper contests at spot [] h = All-nil (λ (b : Block). NoLater at b.spot)
blocks-after paper contests at spot (number ∷ numbers) h =
    let rows = height_of (contest_at contests number) in
    let start = start_of paper spot rows in
    let here = no-later-trans at spot start h (no-later-start paper spot rows) in
    All-cons (λ (b : Block). NoLater at b.spot) (block_at paper contests spot number) (blocks_from paper contests (end_of_block paper contests spot number) numbers)
    here (blocks-after paper contests at (end_of_block paper contests spot number) numbers (no-later-trans at start (below start rows) here (no-later-below start rows)))

-- a bubble stands in a block
record StandsIn (spot : Spot) (rows : ℕ) (bubble : Bubble) : Type 0 where
  col : bubble.col ≡ column_of spot
  low : 6 + spot.row ≤ bubble.row
  high : bubble.row < 6 + spot.row + rows

options-stand : (number : ℕ) (contest : Contest) (spot : Spot) → All (StandsIn spot (height_of contest)) (block_bubbles number contest (column_of spot) (row_of spot))
unfolding block_bubbles
options-stand number contest spot =
    All-made (StandsIn spot (height_of contest)) (option_bubble number contest (column_of spot) (row_of spot)) 0 (options_of contest)
    (λ option from h. record { col = refl; low = omega arith; high = omega (arith, h) })

before-later : (spot other : Spot) (rows others : ℕ) (x y : Bubble) → page_of spot ≡ page_of other → NoLater (below spot rows) other → StandsIn spot rows x → StandsIn other others y → Before x y
before-later spot other rows others x y same (inl h) in_x in_y = inl (omega (arith, h, same, in_x.col, in_y.col))
before-later spot other rows others x y same (inr h) in_x in_y =
    inr (in_x.col ∙ ap (λ (column : ℕ). 4 + 9 * (column % 3)) h.0 ∙ sym in_y.col, omega (arith, h.1, in_x.high, in_y.low))

module _ (paper : Paper) (contests : List Contest) (page : ℕ) where
  -- every bubble of a block stands before those of later blocks on the page
  between : (block : Block) (rest : List Block) → page_of block.spot ≡ page → All (λ (b : Block). NoLater (below block.spot (height_of (contest_at contests block.contest))) b.spot) rest → All (λ (x : Bubble). All (Before x) (flat_map (bubbles_of contests) (on_page page rest))) (bubbles_of contests block)
  between block rest here after =
      let rows = height_of (contest_at contests block.contest) in
      let test = λ (b : Block). page_of b.spot == page in
      let later = All-filter test (λ (b : Block). NoLater (below block.spot rows) b.spot) rest after in
      let on = filter_passes test rest in
      All-weaker (StandsIn block.spot rows) (λ (x : Bubble). All (Before x) (flat_map (bubbles_of contests) (on_page page rest)))
      (λ x in_x. All-flat_map (Before x) (bubbles_of contests) (on_page page rest)
      (λ k d h.
      let other = get_or (on_page page rest) k d in
      All-weaker (StandsIn other.spot (height_of (contest_at contests other.contest))) (Before x)
      (λ y in_y. before-later block.spot other.spot rows (height_of (contest_at contests other.contest)) x y (here ∙ sym (equal-from_yes (page_of other.spot) page (on k d h))) (later k d h) in_x in_y)
      (bubbles_of contests other) (options-stand other.contest (contest_at contests other.contest) other.spot)))
      (bubbles_of contests block) (options-stand block.contest (contest_at contests block.contest) block.spot)

  ordered-page : (spot : Spot) (numbers : List ℕ) → Ordered (flat_map (bubbles_of contests) (on_page page (blocks_from paper contests spot numbers)))
  ordered-page spot [] = tt
  ordered-page spot (number ∷ numbers) =
      let block = block_at paper contests spot number in
      let next = end_of_block paper contests spot number in
      let rest = blocks_from paper contests next numbers in
      let after = ordered-page next numbers in
      let Is : List Block → Type 0 = λ blocks. Ordered (flat_map (bubbles_of contests) blocks) in
      let away = λ (there : (page_of block.spot < page) ⊎ (page < page_of block.spot)). subst Is (sym (on-no page block rest there)) after in
      ⊎_elim
      (λ less. away (inl less))
      (λ more. ⊎_elim
      (λ beyond. away (inr beyond))
      (λ least. let here : page_of block.spot ≡ page = omega (arith, more, least) in
      subst Is (sym (on-yes page block rest here))
      (ordered-append (bubbles_of contests block) (flat_map (bubbles_of contests) (on_page page rest))
      (ordered-block block.contest (contest_at contests block.contest) (column_of block.spot) (row_of block.spot)) after
      (between block rest here (blocks-after paper contests next next numbers (inr (refl, omega arith))))))
      (cases_lt page (page_of block.spot)))
      (cases_lt (page_of block.spot) page)

module _ (paper : Paper) where
  -- the zone of a bubble and the box of another
  apart-before : (a b : Bubble) → IsOnGrid paper a → IsOnGrid paper b → Before a b → Apart (bubble_zone_of paper a) (bubble_box_of paper b)
  apart-before a b on_a on_b (inl less) =
      apart-lies (lies-zone paper a on_a) (lies-box paper b on_b) (inl (omega (arith, less, on_a.col, on_b.col)))
  apart-before a b on_a on_b (inr same) =
      apart-lies (lies-zone paper a on_a) (lies-box paper b on_b) (inr (inr (inl (omega (arith, same.1)))))

  apart-after : (a b : Bubble) → IsOnGrid paper a → IsOnGrid paper b → Before b a → Apart (bubble_zone_of paper a) (bubble_box_of paper b)
  apart-after a b on_a on_b (inl less) =
      apart-lies (lies-zone paper a on_a) (lies-box paper b on_b) (inr (inl (omega (arith, less, on_a.col, on_b.col))))
  apart-after a b on_a on_b (inr same) =
      apart-lies (lies-zone paper a on_a) (lies-box paper b on_b) (inr (inr (inr (omega (arith, same.1)))))

  pub apart-list : (bubbles : List Bubble) → Ordered bubbles → All (IsOnGrid paper) bubbles → (i j : ℕ) (d : Bubble) → i < length bubbles → j < length bubbles → i ≢ j → Apart (bubble_zone_of paper (get_or bubbles i d)) (bubble_box_of paper (get_or bubbles j d))
  apart-list bubbles ordered on i j d in_i in_j other =
      ⊎_elim
      (λ less. apart-before (get_or bubbles i d) (get_or bubbles j d) (on i d in_i) (on j d in_j) (ordered-get bubbles ordered i j d less in_j))
      (λ more. let less : j < i = omega (arith, more, other) in
      apart-after (get_or bubbles i d) (get_or bubbles j d) (on i d in_i) (on j d in_j) (ordered-get bubbles ordered j i d less in_i))
      (cases_lt i j)

-- the bubbles of every page of a plan are apart
pub apart-plan : (election : Election) (number : ℕ) (plan : CardPlan) → IsValid election → plan_of election number ≡ Ok plan → AreApartInPlan plan
apart-plan election number plan valid h =
    let is = parts-of_plan election number plan valid h in
    let contests = election.contests in
    let blocks = blocks_of election number in
    All-pages AreApart election number plan is (λ page. record {
      each =
          apart-list election.paper (flat_map (bubbles_of contests) (on_page page blocks)) (ordered-page election.paper contests page top (contests_of_card election number))
          (grid-page election page blocks is.placed);
    })
