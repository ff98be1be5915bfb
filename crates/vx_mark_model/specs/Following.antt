-- How timing marks are followed: each is expected from one before it. This project's own rule.
-- Marks are told by the last grid row of the paper, so that each rule stands once for both papers.
use Rattle.std.specs.Prelude.{◌<◌, ℕ, ◌-◌, ◌==◌, ◌||◌, Bool, nat_lt, nat_le, if◌then◌else◌, List, pos, ◌+ℤ◌}
use Rattle.vx_plane.specs.Plane.{Page}
use Rattle.vx_grid.specs.declared.paper.Paper.{Paper}
use Rattle.vx_grid.specs.declared.paper.Paper.TheVariants.{Letter}
use Rattle.vx_grid.specs.declared.places.Point.{Point}
use Rattle.vx_grid.specs.Paper.{last_row}
use Rattle.vx_grid.specs.Grid.{x_of, y_of}
use Rattle.vx_grid.specs.Marks.{first_right, first_left, first_bottom, marks_to, marks}
use Rattle.vx_grid.specs.Places.{point_at}
use Rattle.vx_mark_model.specs.Corner.{IsCorner}
use Rattle.vx_mark_model.specs.Best.{IsNear, IsBest}

-- whether a mark stands in the top row or the bottom row
abbrev pub is_in_row : ℕ → ℕ → Bool
is_in_row last k = nat_lt k first_right || nat_le (first_bottom last) k

-- the mark that leads to another: mark 0 to the first of the left column, else the one before
abbrev pub leader_of : ℕ → ℕ → ℕ
leader_of last k = if k == first_left last then 0 else k - 1

-- where the next mark of a row is expected: one grid column to the right
abbrev pub right_of : Point → Point
right_of p = record { u = p.u +ℤ pos (x_of 1 - x_of 0); v = p.v }

-- where the next mark of a column is expected: one grid row down, which is as far on either paper
abbrev pub below : Point → Point
below p = record { u = p.u; v = p.v +ℤ pos (y_of Letter 1 - y_of Letter 0) }

-- where a mark is expected from the mark that leads to it
abbrev pub expected_from : ℕ → ℕ → Point → Point
expected_from last k leader = if is_in_row last k then right_of leader else below leader

-- where a mark is expected, from the places of those before it
abbrev pub prediction_of : ℕ → List Point → ℕ → Point
prediction_of last places k = expected_from last k (point_at places (leader_of last k))

-- the first n places of a list are followed: the corner, and then each the best place near where it
-- is expected
pub record IsFollowed (page : Page) (last n : ℕ) (places : List Point) : Type 0 where
  pub corner : IsCorner page (point_at places 0)
  pub next : (k : ℕ) → 0 < k → k < n → IsBest page (prediction_of last places k) (point_at places k)

-- all marks of a paper are followed
abbrev pub AreAllFollowed : Paper → Page → List Point → Type 0
AreAllFollowed paper page places = IsFollowed page (last_row paper) (marks paper) places

-- where the bottom row leads to from its last mark
abbrev pub end_of : ℕ → List Point → Point
end_of last places = right_of (point_at places (marks_to last - 1))

-- the place of the last mark of the right column
abbrev pub right_end_of : ℕ → List Point → Point
right_end_of last places = point_at places (first_left last - 1)

-- the bottom row leads to the last mark of the right column
abbrev pub Closes : ℕ → List Point → Type 0
Closes last places = IsNear (end_of last places) (right_end_of last places)
