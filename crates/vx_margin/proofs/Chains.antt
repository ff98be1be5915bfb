-- Chains of places from the first mark lie at the marks.
use Rattle.std.proofs.Common.{◌≡◌, ℕ, zero, suc, ◌-◌, ◌≤◌, ◌<◌, Bool, true, false, if◌then◌else◌, List, refl, sym, subst, arith}
use Rattle.std.proofs.lemmas.Int.{ints}
use Rattle.std.proofs.lemmas.Bool.Decides.{nat_tests}
use Rattle.vx_plane.specs.Plane.{Pixels, Page}
use Rattle.vx_grid.specs.declared.paper.Paper.{Paper}
use Rattle.vx_grid.specs.declared.places.Point.{Point}
use Rattle.vx_grid.specs.Paper.{last_row}
use Rattle.vx_grid.specs.Marks.{marks as marks_of, marks_to, mark_of, first_left}
use Rattle.vx_grid.specs.Places.{point_at}
use Rattle.vx_mark_model.specs.Mark.{IsAccepted}
use Rattle.vx_mark_model.specs.Best.{IsNear}
use Rattle.vx_mark_model.specs.Following.{is_in_row, leader_of, right_of, below, prediction_of, IsFollowed, Closes}
use Rattle.vx_geom.specs.Slants.{Slant, IsSlant}
use Rattle.vx_grid.proofs.Papers.{last-row_low}
use Rattle.vx_margin.specs.Marks.{mark_image, IsBorderPoint, AreMarks, image_of, LiesNear}
use Rattle.vx_margin.specs.Shown.{ShowsMarks, ShowsBorder, IsInStartRegion}
use Rattle.vx_margin.specs.Chains.{IsChain, LieAtMarks}
use Rattle.vx_margin.specs.Laws.{IsExpectedNear, NextMarksAreExpected}
use Rattle.vx_margin.proofs.Steps.{right-predicted, below-predicted, accepted-at, accepted-near, corner-near}
use Rattle.vx_margin.proofs.Numbers.{mark-right, mark-below, mark-point}

leader-before : (last k : ℕ) → 0 < k → leader_of last k < k
leader-before last k some = grind (arith, nat_tests)

module _ (s : Slant) (slant : IsSlant s) (paper : Paper) where
  -- where a mark is expected from one that lies at its own
  expected-near : (k : ℕ) (p : Point) (row : Bool) → 0 < k → is_in_row (last_row paper) k ≡ row
      → LiesNear 4 2 p (mark_image s paper (leader_of (last_row paper) k))
      → IsExpectedNear (if row then right_of p else below p) (mark_image s paper k)
  expected-near k p true some is near =
      let at = mark-right (last_row paper) k (last-row_low paper) some is in
      let Column : ℕ → Type 0 = λ c. IsExpectedNear (right_of p) (image_of s paper c (mark_of (last_row paper) (leader_of (last_row paper) k)).1) in
      let Row : ℕ → Type 0 = λ r. IsExpectedNear (right_of p) (image_of s paper (mark_of (last_row paper) k).0 r) in
      subst Row (sym at.1) (subst Column (sym at.0) (right-predicted s slant paper p _ _ near))
  expected-near k p false some is near =
      let at = mark-below (last_row paper) k (last-row_low paper) some is in
      let Row : ℕ → Type 0 = λ r. IsExpectedNear (below p) (image_of s paper (mark_of (last_row paper) (leader_of (last_row paper) k)).0 r) in
      let Column : ℕ → Type 0 = λ c. IsExpectedNear (below p) (image_of s paper c (mark_of (last_row paper) k).1) in
      subst Column (sym at.0) (subst Row (sym at.1) (below-predicted s slant paper p _ _ near))

pub next-expected : NextMarksAreExpected
next-expected s paper k p slant some near = expected-near s slant paper k p (is_in_row (last_row paper) k) some refl near

module _ (s : Slant) (scan : Page) (paper : Paper) (marks : Pixels) (slant : IsSlant s) (are : AreMarks paper marks) (shows : ShowsMarks s scan paper marks) where
  -- a chain from the first mark lies at the marks
  module _ (n : ℕ) (places : List Point) (few : n ≤ marks_of paper) (chain : IsChain scan (last_row paper) n places) (first : LiesNear 4 2 (point_at places 0) (mark_image s paper 0)) where
    at-next : (k : ℕ) → 0 < k → k < n → LiesNear 4 2 (point_at places (leader_of (last_row paper) k)) (mark_image s paper (leader_of (last_row paper) k))
        → LiesNear 4 2 (point_at places k) (mark_image s paper k)
    at-next k some within near =
        let point : IsBorderPoint paper (mark_of (last_row paper) k).0 (mark_of (last_row paper) k).1 = mark-point paper k (omega (arith, within, few)) in
        (accepted-at s slant scan paper marks are shows _ _ (omega (arith, point.column)) (omega (arith, point.row)) point.side
        (prediction_of (last_row paper) places k) (point_at places k) (next-expected s paper k (point_at places (leader_of (last_row paper) k)) slant some near) (chain.accepted k within) (chain.near k some within)).1

    before : (m k : ℕ) → k < m → m ≤ n → LiesNear 4 2 (point_at places k) (mark_image s paper k)
    before zero k less all = absurd (omega (arith, less))
    before (suc m) zero less all = first
    before (suc m) (suc k) less all =
        at-next (suc k) (omega arith) (omega (arith, less, all))
        (before m (leader_of (last_row paper) (suc k)) (let lead : leader_of (last_row paper) (suc k) < suc k = leader-before (last_row paper) (suc k) (omega arith) in omega (arith, lead, less)) (omega (arith, all)))

    pub chain-near : LieAtMarks s paper n places
    chain-near = record { each = λ k within. before n k within (omega arith) }

-- followed places are a chain
pub followed-chain : (scan : Page) (last n : ℕ) (places : List Point) → IsFollowed scan last n places → IsChain scan last n places
followed-chain scan last n places followed = record {
  accepted = λ k within. accepted_each k within;
  near = λ k some within. (followed.next k some within).near;
}
  where
    accepted_each : (k : ℕ) → k < n → IsAccepted scan (point_at places k)
    accepted_each zero within = followed.corner.accepted
    accepted_each (suc k) within = (followed.next (suc k) (omega arith) within).accepted

-- two places near two others that are one
meets : (p q o : Point) → LiesNear 5 3 p o → LiesNear 4 2 q o → IsNear p q
meets p q o a b = record {
  left = omega (arith, ints, a.across.high, b.across.low);
  right = omega (arith, ints, a.across.low, b.across.high);
  top = omega (arith, ints, a.down.high, b.down.low);
  bottom = omega (arith, ints, a.down.low, b.down.high);
}

module _ (s : Slant) (scan : Page) (paper : Paper) (marks : Pixels) (shows : ShowsBorder s scan paper marks) where
  -- followed places lie at the marks
  pub followed-near : IsInStartRegion (mark_image s paper 0) → (n : ℕ) (places : List Point) → n ≤ marks_of paper → IsFollowed scan (last_row paper) n places → LieAtMarks s paper n places
  followed-near start n places few followed =
      chain-near s scan paper marks shows.slant_is shows.marks_are shows.shows n places few (followed-chain scan (last_row paper) n places followed)
      (corner-near s scan paper marks shows start (point_at places 0) followed.corner)

  -- places that lie at the marks close
  pub near-closes : (places : List Point) → LieAtMarks s paper (marks_of paper) places → Closes (last_row paper) places
  near-closes places near =
      let last : ℕ = last_row paper in
      let many : 40 ≤ last = last-row_low paper in
      let e : ℕ = marks_to last - 1 in
      let f : ℕ = first_left last - 1 in
      let e-column : (mark_of last e).0 ≡ 32 = grind (arith, nat_tests) in
      let e-row : (mark_of last e).1 ≡ last = grind (arith, nat_tests) in
      let f-column : (mark_of last f).0 ≡ 33 = grind (arith, nat_tests) in
      let f-row : (mark_of last f).1 ≡ last = grind (arith, nat_tests) in
      let At : Point → ℕ → ℕ → Type 0 = λ p c r. LiesNear 4 2 p (image_of s paper c r) in
      let at-e : LiesNear 4 2 (point_at places e) (image_of s paper 32 last) =
      subst (λ (r : ℕ). At (point_at places e) 32 r) e-row (subst (λ (c : ℕ). At (point_at places e) c (mark_of last e).1) e-column (near.each e (omega arith))) in
      let at-f : LiesNear 4 2 (point_at places f) (image_of s paper 33 last) =
      subst (λ (r : ℕ). At (point_at places f) 33 r) f-row (subst (λ (c : ℕ). At (point_at places f) c (mark_of last f).1) f-column (near.each f (omega arith))) in
      meets (right_of (point_at places e)) (point_at places f) (image_of s paper 33 last) (right-predicted s shows.slant_is paper (point_at places e) 32 last at-e) at-f

  -- the next mark is accepted where it is expected
  pub next-accepted : (n : ℕ) (places : List Point) → 0 < n → n < marks_of paper → LieAtMarks s paper n places
      → IsAccepted scan (mark_image s paper n) × IsNear (prediction_of (last_row paper) places n) (mark_image s paper n)
  next-accepted n places some few near =
      let lead : leader_of (last_row paper) n < n = leader-before (last_row paper) n some in
      let point : IsBorderPoint paper (mark_of (last_row paper) n).0 (mark_of (last_row paper) n).1 = mark-point paper n few in
      accepted-near s shows.slant_is scan paper marks shows.marks_are shows.shows _ _ point (shows.in_frame n few) (prediction_of (last_row paper) places n)
      (next-expected s paper n (point_at places (leader_of (last_row paper) n)) shows.slant_is some (near.each (leader_of (last_row paper) n) lead))
