use Rattle.std.proofs.Common.{◌≡◌, ℕ, List, length}
use Rattle.vx_plane.specs.Plane.{Page}
use Rattle.vx_grid.specs.declared.places.Point.{Point}
use Rattle.vx_grid.specs.Paper.{last_row}
use Rattle.vx_mark_model.specs.Following.{IsFollowed}
use Rattle.vx_border.proofs.following.follow.Given as goal

-- the places before the mark that comes are followed
pub record IsFollowedSoFar (page : Page) (last k : ℕ) (places : List Point) : Type 0 where
  pub all : length places ≡ 168
  pub followed : IsFollowed page last k places

abbrev pub invariant-loop-k : goal.invariant-loop-k
invariant-loop-k l = IsFollowedSoFar l.counter (last_row l.paper) l.k l.places
