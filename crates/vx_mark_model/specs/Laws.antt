-- What is proved of accepted places, of followed lists of places, and of the border of a scan.
use Rattle.std.specs.Prelude.{◌≡◌, ◌<◌, ◌≤◌, ℕ, ◌+◌, List, Result}
use Rattle.vx_plane.specs.Plane.{Page}
use Rattle.vx_grid.specs.declared.paper.Paper.{Paper}
use Rattle.vx_grid.specs.declared.places.Point.{Point}
use Rattle.vx_grid.specs.Borders.{MarkPlaces}
use Rattle.vx_grid.specs.Places.{IsPointWithin, point_at}
use Rattle.vx_mark_model.specs.Mark.{IsAccepted}
use Rattle.vx_mark_model.specs.Corner.{IsCorner}
use Rattle.vx_mark_model.specs.Best.{IsBest}
use Rattle.vx_mark_model.specs.declared.fault.BorderFault.{BorderFault}
use Rattle.vx_mark_model.specs.Following.{prediction_of, IsFollowed}
use Rattle.vx_mark_model.specs.Border.{IsBorderOf}

-- an accepted place lies in the frame: within n of the origin, where the frame does
abbrev pub AcceptedAreFramed : Type 0
AcceptedAreFramed =
    (page : Page) (n : ℕ) (p : Point) → page.width ≤ n → page.height ≤ n → IsAccepted page p → IsPointWithin n p

-- the corner alone is followed
abbrev pub CornerIsFollowed : Type 0
CornerIsFollowed =
    (page : Page) (last : ℕ) (places : List Point) → IsCorner page (point_at places 0) → IsFollowed page last 1 places

-- of a list that begins with followed places and goes on with the best place near where the next
-- mark is expected, one place more is followed
abbrev pub FollowedGrows : Type 0
FollowedGrows =
    (page : Page) (last n : ℕ) (places longer : List Point) → 0 < n → IsFollowed page last n places
    → ((k : ℕ) → k < n → point_at longer k ≡ point_at places k)
    → IsBest page (prediction_of last places n) (point_at longer n)
    → IsFollowed page last (n + 1) longer

-- a list that begins with followed places is followed as far
abbrev pub FollowedIsSame : Type 0
FollowedIsSame =
    (page : Page) (last n : ℕ) (places others : List Point) → 0 < n
    → ((k : ℕ) → k < n → point_at others k ≡ point_at places k)
    → IsFollowed page last n places → IsFollowed page last n others

-- two followed lists of the same number of marks have the same places
abbrev pub FollowedIsOne : Type 0
FollowedIsOne =
    (page : Page) (last n : ℕ) (a b : List Point) → IsFollowed page last n a → IsFollowed page last n b
    → (k : ℕ) → k < n → point_at a k ≡ point_at b k

-- a scan has one border, or one first fault
abbrev pub BorderIsOne : Type 0
BorderIsOne =
    (paper : Paper) (page : Page) (a b : Result MarkPlaces BorderFault)
    → IsBorderOf paper page a → IsBorderOf paper page b → a ≡ b
