-- Places that lead from mark to mark.
use Rattle.std.specs.Prelude.{◌<◌, ℕ, List}
use Rattle.vx_plane.specs.Plane.{Page}
use Rattle.vx_grid.specs.declared.paper.Paper.{Paper}
use Rattle.vx_grid.specs.declared.places.Point.{Point}
use Rattle.vx_grid.specs.Places.{point_at}
use Rattle.vx_mark_model.specs.Mark.{IsAccepted}
use Rattle.vx_mark_model.specs.Best.{IsNear}
use Rattle.vx_mark_model.specs.Following.{prediction_of}
use Rattle.vx_geom.specs.Slants.{Slant}
use Rattle.vx_margin.specs.Marks.{mark_image, LiesNear}

-- what a border and a certificate have in common: each of the first n places is accepted, and each but the first
-- lies near where it is expected
pub record IsChain (scan : Page) (last n : ℕ) (places : List Point) : Type 0 where
  pub accepted : (k : ℕ) → k < n → IsAccepted scan (point_at places k)
  pub near : (k : ℕ) → 0 < k → k < n → IsNear (prediction_of last places k) (point_at places k)

-- each of the first n places lies near the image of its own mark
pub record LieAtMarks (s : Slant) (paper : Paper) (n : ℕ) (places : List Point) : Type 0 where
  pub each : (k : ℕ) → k < n → LiesNear 4 2 (point_at places k) (mark_image s paper k)
