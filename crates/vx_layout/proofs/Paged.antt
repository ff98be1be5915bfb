-- The pages of a card have all blocks between them, in order.
use Rattle.std.proofs.Common.{◌≡◌, ℕ, zero, suc, ◌+◌, ◌≤◌, ◌<◌, ◌⊎◌, ⊎_elim, inl, inr, List, [], ◌∷◌, ◌++◌, Bool, cond, refl, sym, ap, ap₂, ◌∙◌, arith, append_assoc}
use Rattle.std.specs.Prelude.{All}
use Rattle.std.specs.List.{flat_map, range_with_len}
use Rattle.std.proofs.lemmas.List.Elements.{All-nil, All-cons, All-head, All-tail, All-weaker}
use Rattle.std.proofs.lemmas.Bool.Decides.{nat_tests}
use Rattle.std.proofs.lemmas.Bool.{cases_lt}
use Rattle.vx_base.proofs.Numbers.{equal-yes, equal-no}
use Rattle.vx_grid.specs.declared.paper.Paper.{Paper}
use Rattle.vx_election_model.specs.declared.contest.Contest.{Contest}
use Rattle.vx_layout.specs.declared.flow.Spot.{Spot}
use Rattle.vx_layout.specs.declared.flow.Block.{Block}
use Rattle.vx_layout.specs.Blocks.{height_of}
use Rattle.vx_layout.specs.Flow.{start_of, contest_at, block_at, end_of_block, blocks_from, end_from, page_of}
use Rattle.vx_layout.specs.Plan.{on_page}

apart-numbers : (m n : ℕ) → (m < n) ⊎ (n < m) → m ≡ n → ⊥
apart-numbers m n (inl less) same = omega (arith, less)
apart-numbers m n (inr more) same = omega (arith, more)

-- a block that stands on a page
pub on-yes : (page : ℕ) (block : Block) (blocks : List Block) → page_of block.spot ≡ page → on_page page (block ∷ blocks) ≡ block ∷ on_page page blocks
on-yes page block blocks here = ap (λ (b : Bool). cond b (block ∷ on_page page blocks) (on_page page blocks)) (equal-yes (page_of block.spot) page here)

-- a block that stands on another
pub on-no : (page : ℕ) (block : Block) (blocks : List Block) → (page_of block.spot < page) ⊎ (page < page_of block.spot) → on_page page (block ∷ blocks) ≡ on_page page blocks
on-no page block blocks there = ap (λ (b : Bool). cond b (block ∷ on_page page blocks) (on_page page blocks)) (equal-no (page_of block.spot) page (apart-numbers (page_of block.spot) page there))

-- no block stands on a page before all of theirs
on-none : (page : ℕ) (blocks : List Block) → All (λ (block : Block). page < page_of block.spot) blocks → on_page page blocks ≡ []
on-none page [] after = refl
on-none page (block ∷ blocks) after =
    on-no page block blocks (inr (All-head (λ (block : Block). page < page_of block.spot) block blocks after))
    ∙ on-none page blocks (All-tail (λ (block : Block). page < page_of block.spot) block blocks after)

module _ {X : Type 0} (f : Block → List X) where
  -- what the blocks of so many pages have
  paged : ℕ → ℕ → List Block → List X
  paged from count blocks = flat_map (λ page. flat_map f (on_page page blocks)) (range_with_len from count)

  -- a block on an earlier page adds nothing
  paged-past : (from count : ℕ) (block : Block) (blocks : List Block) → page_of block.spot < from → paged from count (block ∷ blocks) ≡ paged from count blocks
  unfolding paged
  paged-past from zero block blocks past = refl
  paged-past from (suc count) block blocks past =
      ap₂ (λ (a b : List X). a ++ b) (ap (flat_map f) (on-no from block blocks (inl past))) (paged-past (from + 1) count block blocks (omega arith))

  -- the first block comes first
  paged-first : (from count : ℕ) (block : Block) (blocks : List Block) → from ≤ page_of block.spot → page_of block.spot < from + count → All (λ (b : Block). page_of block.spot ≤ page_of b.spot) blocks → paged from count (block ∷ blocks) ≡ f block ++ paged from count blocks
  unfolding paged
  paged-first from zero block blocks low high after = absurd (omega arith)
  paged-first from (suc count) block blocks low high after =
      ⊎_elim
      (λ later. let none = on-none from blocks (All-weaker (λ (b : Block). page_of block.spot ≤ page_of b.spot) (λ (b : Block). from < page_of b.spot) (λ b h. omega (arith, h)) blocks after) in
      ap₂ (λ (a b : List X). a ++ b) (ap (flat_map f) (on-no from block blocks (inr later) ∙ none)) (paged-first (from + 1) count block blocks (omega arith) (omega arith) after)
      ∙ ap (λ (a : List Block). f block ++ (flat_map f a ++ paged (from + 1) count blocks)) (sym none))
      (λ here. let at : page_of block.spot ≡ from = omega arith in
      ap₂ (λ (a b : List X). a ++ b) (ap (flat_map f) (on-yes from block blocks at)) (paged-past (from + 1) count block blocks (omega arith))
      ∙ append_assoc (f block) (flat_map f (on_page from blocks)) (paged (from + 1) count blocks))
      (cases_lt from (page_of block.spot))

  -- no blocks have nothing
  paged-none : (from count : ℕ) → paged from count [] ≡ []
  unfolding paged
  paged-none from zero = refl
  paged-none from (suc count) = paged-none (from + 1) count

-- blocks stand at or after where they begin to flow
later : (paper : Paper) (contests : List Contest) (spot : Spot) (numbers : List ℕ) (column : ℕ) → column ≤ spot.column → All (λ (b : Block). column ≤ b.spot.column) (blocks_from paper contests spot numbers)
later paper contests spot [] column h = All-nil (λ (b : Block). column ≤ b.spot.column)
later paper contests spot (number ∷ numbers) column h =
    let here : column ≤ (start_of paper spot (height_of (contest_at contests number))).column = grind (arith, nat_tests) in
    All-cons (λ (b : Block). column ≤ b.spot.column) (block_at paper contests spot number) (blocks_from paper contests (end_of_block paper contests spot number) numbers)
    here (later paper contests (end_of_block paper contests spot number) numbers column here)

-- the end is at or after where they begin
end-later : (paper : Paper) (contests : List Contest) (spot : Spot) (numbers : List ℕ) (column : ℕ) → column ≤ spot.column → column ≤ (end_from paper contests spot numbers).column
end-later paper contests spot [] column h = h
end-later paper contests spot (number ∷ numbers) column h =
    let here : column ≤ (start_of paper spot (height_of (contest_at contests number))).column = grind (arith, nat_tests) in
    end-later paper contests (end_of_block paper contests spot number) numbers column here

page-le : (a b : Spot) → a.column ≤ b.column → page_of a ≤ page_of b
page-le a b h = omega arith

-- the pages up to the last have all blocks, in order
pub all-paged : {X : Type 0} (f : Block → List X) (paper : Paper) (contests : List Contest) (spot : Spot) (numbers : List ℕ) (count : ℕ) → page_of (end_from paper contests spot numbers) ≤ count → flat_map (λ page. flat_map f (on_page page (blocks_from paper contests spot numbers))) (range_with_len 1 count) ≡ flat_map f (blocks_from paper contests spot numbers)
unfolding paged
all-paged f paper contests spot [] count h = paged-none f 1 count
all-paged f paper contests spot (number ∷ numbers) count h =
    let block = block_at paper contests spot number in
    let next = end_of_block paper contests spot number in
    let rest = blocks_from paper contests next numbers in
    let after = All-weaker (λ (b : Block). block.spot.column ≤ b.spot.column) (λ (b : Block). page_of block.spot ≤ page_of b.spot)
    (λ b l. page-le block.spot b.spot l) rest (later paper contests next numbers block.spot.column (omega arith)) in
    let last : page_of block.spot ≤ page_of (end_from paper contests next numbers) = page-le block.spot (end_from paper contests next numbers) (end-later paper contests next numbers block.spot.column (omega arith)) in
    paged-first f 1 count block rest (omega arith) (omega arith) after
    ∙ ap (λ xs. f block ++ xs) (all-paged f paper contests next numbers count h)
