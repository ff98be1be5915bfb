-- Blocks of contests that can be printed stand within their columns.
use Rattle.std.proofs.Common.{◌≡◌, ℕ, ◌+◌, ◌≤◌, List, [], ◌∷◌, length, suc, refl, ap, arith}
use Rattle.std.specs.Prelude.{All}
use Rattle.std.proofs.lemmas.List.Elements.{All-nil, All-cons, All-head, All-tail}
use Rattle.std.proofs.lemmas.Bool.Decides.{nat_tests}
use Rattle.vx_grid.specs.declared.paper.Paper.{Paper}
use Rattle.vx_grid.specs.Grid.{contest_rows}
use Rattle.vx_election_model.specs.declared.contest.Contest.{Contest}
use Rattle.vx_layout.specs.declared.flow.Spot.{Spot}
use Rattle.vx_layout.specs.Blocks.{height_of}
use Rattle.vx_layout.specs.Flow.{start_of, contest_at, block_at, end_of_block, blocks_from, CanStand, IsPlaced}

-- a block starts where its rows fit
pub start-room : (paper : Paper) (spot : Spot) (rows : ℕ) → rows ≤ contest_rows paper → (start_of paper spot rows).row + rows ≤ contest_rows paper
start-room paper spot rows few = grind (arith, nat_tests)

-- blocks of contests that can stand are placed
pub All-placed : (paper : Paper) (contests : List Contest) (spot : Spot) (numbers : List ℕ) → All (CanStand paper contests) numbers → All (IsPlaced paper contests) (blocks_from paper contests spot numbers)
All-placed paper contests spot [] stand = All-nil (IsPlaced paper contests)
All-placed paper contests spot (number ∷ numbers) stand =
    let here : CanStand paper contests number = All-head (CanStand paper contests) number numbers stand in
    All-cons (IsPlaced paper contests) (block_at paper contests spot number) (blocks_from paper contests (end_of_block paper contests spot number) numbers)
    (record { there = here.there; fits = here.fits; room = start-room paper spot (height_of (contest_at contests number)) here.fits.height })
    (All-placed paper contests (end_of_block paper contests spot number) numbers (All-tail (CanStand paper contests) number numbers stand))

-- there are as many blocks as contests
pub length-blocks_from : (paper : Paper) (contests : List Contest) (spot : Spot) (numbers : List ℕ) → length (blocks_from paper contests spot numbers) ≡ length numbers
length-blocks_from paper contests spot [] = refl
length-blocks_from paper contests spot (number ∷ numbers) = ap suc (length-blocks_from paper contests (end_of_block paper contests spot number) numbers)
