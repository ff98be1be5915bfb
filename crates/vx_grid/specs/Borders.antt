-- What a border is seen as.
use Rattle.std.specs.Prelude.{List}
use Rattle.vx_grid.specs.declared.paper.Paper.{Paper}
use Rattle.vx_grid.specs.declared.places.Point.{Point}

-- the paper, and the places of its timing marks in their order
pub record MarkPlaces : Type 0 where
  pub paper : Paper
  pub places : List Point
