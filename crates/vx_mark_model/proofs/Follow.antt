-- Laws of accepted places and of followed lists of places.
use Rattle.std.proofs.Common.{◌≡◌, ◌+◌, ◌<◌, ◌≤◌, inl, inr, ℕ, List, arith, ap, sym, subst}
use Rattle.std.proofs.lemmas.Int.{ints}
use Rattle.std.proofs.lemmas.Bool.{cases_lt}
use Rattle.std.proofs.lemmas.Bool.Decides.{nat_tests}
use Rattle.vx_plane.specs.Plane.{Page}
use Rattle.vx_grid.specs.declared.places.Point.{Point}
use Rattle.vx_grid.specs.Places.{IsPointWithin, point_at}
use Rattle.vx_mark_model.specs.Mark.{IsAccepted}
use Rattle.vx_mark_model.specs.Corner.{IsCorner}
use Rattle.vx_mark_model.specs.Best.{IsBest}
use Rattle.vx_mark_model.specs.Following.{IsFollowed, leader_of, prediction_of, expected_from}

-- an accepted place lies in the frame
pub accepted_within : (page : Page) (n : ℕ) (p : Point) → page.width ≤ n → page.height ≤ n → IsAccepted page p → IsPointWithin n p
accepted_within page n p w h a = record {
  u = record { low = omega (arith, ints, a.in_frame.left); high = omega (arith, ints, a.in_frame.right, w) };
  v = record { low = omega (arith, ints, a.in_frame.top); high = omega (arith, ints, a.in_frame.bottom, h) };
}

-- the mark that leads to another comes before it
pub leader_before : (last k : ℕ) → 0 < k → leader_of last k < k
leader_before last k h = grind (arith, nat_tests)

-- the corner alone is followed
pub followed_one : (page : Page) (last : ℕ) (places : List Point) → IsCorner page (point_at places 0) → IsFollowed page last 1 places
followed_one page last places corner = record { corner = corner; next = λ k l h. absurd (omega arith) }

-- where a mark is expected is told by the places before it
prediction_same : (last n : ℕ) (places longer : List Point) → ((k : ℕ) → k < n → point_at longer k ≡ point_at places k)
    → (j : ℕ) → 0 < j → j ≤ n → prediction_of last longer j ≡ prediction_of last places j
prediction_same last n places longer same j some most = ap (expected_from last j) (same (leader_of last j) (omega (arith, leader_before last j some)))

-- a list that begins with followed places, with one place more
pub followed_grows : (page : Page) (last n : ℕ) (places longer : List Point) → 0 < n → IsFollowed page last n places
    → ((k : ℕ) → k < n → point_at longer k ≡ point_at places k) → IsBest page (prediction_of last places n) (point_at longer n)
    → IsFollowed page last (n + 1) longer
followed_grows page last n places longer some f same best =
    let Corner : Point → Type 0 = λ x. IsCorner page x in
    let expected : (j : ℕ) → 0 < j → j ≤ n → IsBest page (prediction_of last places j) (point_at longer j)
    → IsBest page (prediction_of last longer j) (point_at longer j) =
    λ j low high here.
    let Expected : Point → Type 0 = λ q. IsBest page q (point_at longer j) in
    subst Expected (sym (prediction_same last n places longer same j low high)) here in
    record {
      corner = subst Corner (sym (same 0 some)) f.corner;
      next = λ j low high.
          elim (cases_lt j n) [
            | inl before ↦
                let Here : Point → Type 0 = λ x. IsBest page (prediction_of last places j) x in
                expected j low (omega arith) (subst Here (sym (same j before)) (f.next j low before))
            | inr not_before ↦
                let final : n ≡ j = omega arith in
                let At : ℕ → Type 0 = λ m. IsBest page (prediction_of last longer m) (point_at longer m) in
                subst At final (expected n some (omega arith) best)
          ];
    }

-- a list that begins with followed places is followed so far
pub followed_same : (page : Page) (last n : ℕ) (places others : List Point) → 0 < n → ((k : ℕ) → k < n → point_at others k ≡ point_at places k)
    → IsFollowed page last n places → IsFollowed page last n others
followed_same page last n places others some same f =
    let Corner : Point → Type 0 = λ x. IsCorner page x in
    record {
      corner = subst Corner (sym (same 0 some)) f.corner;
      next = λ j low before.
          let Expected : Point → Type 0 = λ q. IsBest page q (point_at others j) in
          let Here : Point → Type 0 = λ x. IsBest page (prediction_of last places j) x in
          subst Expected (sym (prediction_same last n places others same j low (omega arith))) (subst Here (sym (same j before)) (f.next j low before));
    }
