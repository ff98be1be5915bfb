-- The units, contests and selections, by their places, of which there are votes.
use Rattle.std.specs.Prelude.{ℕ, ◌<◌, All, List, Contains}
use Rattle.std.specs.List.Sorted.{IsStrictlySortedBy}
use Rattle.std.specs.Ordering.{nat_cmp, ordering_then}
use Rattle.std.specs.declared.cmp.Ordering.{Ordering}

-- the places of a unit, of a contest, and of a selection of it
abbrev pub Cell : Type 0
Cell = ℕ × ℕ × ℕ

-- by the units, then by the contests, then by the selections
abbrev pub cell_cmp : Cell → Cell → Ordering
cell_cmp x y = ordering_then (ordering_then (nat_cmp x.0 y.0) (nat_cmp x.1 y.1)) (nat_cmp x.2 y.2)

-- exactly those of which there are votes, in order and so each once
pub record HaveVotes (votes : ℕ → ℕ → ℕ → ℕ) (cells : List Cell) : Type 0 where
  pub ordered : IsStrictlySortedBy cell_cmp cells
  pub each : All (λ (cell : Cell). 0 < votes cell.0 cell.1 cell.2) cells
  pub has : (cell : Cell) → 0 < votes cell.0 cell.1 cell.2 → Contains cells cell
