-- What the search for a border keeps: places that are followed, in a list that each new place is written into.
use Rattle.std.proofs.Common.{◌≡◌, ◌≢◌, ◌+◌, ◌<◌, ◌≤◌, ℕ, zero, suc, List, length, set, arith, sym, subst, pos, get_or-set_same, get_or-set_other}
use Rattle.vx_plane.specs.Plane.{Page}
use Rattle.vx_grid.specs.declared.places.Point.{Point}
use Rattle.vx_grid.specs.Places.{IsPointWithin, point_at}
use Rattle.vx_mark_model.specs.Best.{IsBest}
use Rattle.vx_mark_model.specs.Following.{IsFollowed, prediction_of}
use Rattle.vx_mark_model.specs.Laws.{AcceptedAreFramed, FollowedGrows}

-- each place of a followed list lies in the frame
pub followed_within : AcceptedAreFramed → (page : Page) (bound last n k : ℕ) (places : List Point) → page.width ≤ bound → page.height ≤ bound
    → IsFollowed page last n places → k < n → IsPointWithin bound (point_at places k)
followed_within framed page bound last n zero places w h f l = framed page bound _ w h f.corner.accepted
followed_within framed page bound last n (suc k) places w h f l = framed page bound _ w h (f.next (suc k) (omega arith) l).accepted

-- a place that is written leaves the places before it
point_at_before : (places : List Point) (k j : ℕ) (p : Point) → j < k → point_at (set places k p) j ≡ point_at places j
point_at_before places k j p before = let apart : j ≢ k = λ e. absurd (omega arith) in get_or-set_other places k j p (record { u = pos 0; v = pos 0 }) apart

-- and stands at its own index
point_at_own : (places : List Point) (k : ℕ) (p : Point) → k < length places → point_at (set places k p) k ≡ p
point_at_own places k p inside = get_or-set_same places k p (record { u = pos 0; v = pos 0 }) inside

-- the best place near where the next mark is expected, written into the list
pub followed_more : FollowedGrows → (page : Page) (last k : ℕ) (places : List Point) (p : Point) → 0 < k → k < length places
    → IsFollowed page last k places → IsBest page (prediction_of last places k) p → IsFollowed page last (k + 1) (set places k p)
followed_more grows page last k places p some inside f best =
    let Own : Point → Type 0 = λ x. IsBest page (prediction_of last places k) x in
    grows page last k places (set places k p) some f (λ j before. point_at_before places k j p before) (subst Own (sym (point_at_own places k p inside)) best)
