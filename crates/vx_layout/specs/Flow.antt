-- Where blocks stand: they flow through text columns with the paper's rows, three on each page.
use Rattle.std.specs.Prelude.{◌<◌, ◌≤◌, ℕ, ◌+◌, ◌*◌, ◌/◌, ◌%◌, List, [], ◌∷◌, length, false, None, nat_le, if◌then◌else◌, slice_index_or}
use Rattle.vx_grid.specs.declared.paper.Paper.{Paper}
use Rattle.vx_grid.specs.Grid.{first_contest_row, contest_rows}
use Rattle.vx_election_model.specs.declared.contest.Contest.{Contest}
use Rattle.vx_layout.specs.declared.flow.Spot.{Spot}
use Rattle.vx_layout.specs.declared.flow.Block.{Block}
use Rattle.vx_layout.specs.Blocks.{height_of, Fits}

-- the top of the first column
abbrev pub top : Spot
top = record { column = 0; row = 0 }

-- where a block of some rows begins, if what is before it ends at a spot: there where the rows fit in
-- what is left of the column, else at the top of the next
abbrev pub start_of : Paper → Spot → ℕ → Spot
start_of paper spot rows =
    if nat_le (spot.row + rows) (contest_rows paper) then spot else record { column = spot.column + 1; row = 0 }

-- so many rows below a spot
abbrev pub below : Spot → ℕ → Spot
below spot rows = record { column = spot.column; row = spot.row + rows }

-- no contest, which stands past the end of a list of them
abbrev pub no_contest : Contest
no_contest = record {
  id = [];
  title = [];
  description = [];
  district = 0;
  party = None;
  seats = 0;
  choices = [];
  write_ins = false;
  is_yes_no = false;
}

-- the contest with a number
abbrev pub contest_at : List Contest → ℕ → Contest
contest_at contests number = slice_index_or contests number no_contest

-- the block of a contest, after what ends at a spot
abbrev pub block_at : Paper → List Contest → Spot → ℕ → Block
block_at paper contests spot number =
    record { contest = number; spot = start_of paper spot (height_of (contest_at contests number)) }

-- where that block ends
abbrev pub end_of_block : Paper → List Contest → Spot → ℕ → Spot
end_of_block paper contests spot number =
    below (start_of paper spot (height_of (contest_at contests number))) (height_of (contest_at contests number))

-- the blocks of contests, one after the other from a spot on
abbrev pub blocks_from : Paper → List Contest → Spot → List ℕ → List Block
blocks_from paper contests spot [] = []
blocks_from paper contests spot (number ∷ numbers) =
    block_at paper contests spot number
    ∷ blocks_from paper contests (end_of_block paper contests spot number) numbers

-- where the last of them ends
abbrev pub end_from : Paper → List Contest → Spot → List ℕ → Spot
end_from paper contests spot [] = spot
end_from paper contests spot (number ∷ numbers) =
    end_from paper contests (end_of_block paper contests spot number) numbers

-- the page of a spot, from 1: three columns a page
abbrev pub page_of : Spot → ℕ
page_of spot = spot.column / 3 + 1

-- the grid column of its bubbles: 4, 13 or 22
abbrev pub column_of : Spot → ℕ
column_of spot = 4 + 9 * (spot.column % 3)

-- its grid row
abbrev pub row_of : Spot → ℕ
row_of spot = first_contest_row + spot.row

-- an even number of pages, the last one without contests if need be
abbrev pub even_up : ℕ → ℕ
even_up pages = pages + pages % 2

-- a block of a contest that can be printed, which stands within its column
pub record IsPlaced (paper : Paper) (contests : List Contest) (block : Block) : Type 0 where
  pub there : block.contest < length contests
  pub fits : Fits paper (contest_at contests block.contest)
  pub room : block.spot.row + height_of (contest_at contests block.contest) ≤ contest_rows paper

-- a contest with a number is there and can be printed
pub record CanStand (paper : Paper) (contests : List Contest) (number : ℕ) : Type 0 where
  pub there : number < length contests
  pub fits : Fits paper (contest_at contests number)
