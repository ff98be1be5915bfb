-- What the tests of a border say.
use Rattle.std.proofs.Common.{◌≡◌, ◌↔◌, ℕ, zero, suc, ◌≤◌, ◌<◌, Bool, true, false, cond, List, ℤ, pos, ◌-ℤ◌, refl, ap, ap₂, sym, subst, ◌∙◌, arith}
use Rattle.std.specs.Prelude.{slice_get, Some, Ok, Err, OnOk, is_ok, length}
use Rattle.std.proofs.lemmas.Int.{ints}
use Rattle.std.proofs.lemmas.Bool.Decides.{nat_tests}
use Rattle.std.proofs.lemmas.Option.{get_or_from_slice_get, slice_get_within}
use Rattle.vx_base.specs.Results.{◌>>=◌}
use Rattle.vx_plane.specs.Plane.{Page}
use Rattle.vx_grid.specs.declared.paper.Paper.{Paper}
use Rattle.vx_grid.specs.declared.paper.Paper.TheVariants.{Letter, Legal}
use Rattle.vx_grid.specs.declared.places.Point.{Point}
use Rattle.vx_grid.specs.Paper.{last_row}
use Rattle.vx_grid.specs.Marks.{marks, marks_to}
use Rattle.vx_grid.specs.Borders.{MarkPlaces}
use Rattle.vx_grid.specs.Places.{IsPointWithin, AreWithin, point_at}
use Rattle.vx_mark_model.specs.Region.{IsIn, is_in}
use Rattle.vx_mark_model.specs.Mark.{deficit_of, IsAccepted, is_accepted}
use Rattle.vx_mark_model.specs.Corner.{corner_region, IsInCornerRegion}
use Rattle.vx_mark_model.specs.Best.{near, IsNear}
use Rattle.vx_mark_model.specs.Following.{leader_of, expected_from, prediction_of, end_of, right_end_of, Closes}
use Rattle.vx_mark_model.specs.Laws.{AcceptedAreFramed}
use Rattle.vx_margin.specs.Chains.{IsChain}
use Rattle.vx_scan_model.specs.Reading.{is_allowed}
use Rattle.vx_scan_model.specs.Certificate.{PlacesAreTested}
use Rattle.vx_refusals.specs.declared.checking.CheckFault.{CheckFault}
use Rattle.vx_refusals.specs.declared.checking.CheckFault.TheVariants.{MarkAt, StepAt}
use Rattle.vx_check.specs.Tests.{Tested, passes, in_order, paper_tested, corner_tested, countable, light_deficit, mark_tested, near_tested, step_tested, place_tested, closing_tested, border_tested}
use Rattle.vx_check.proofs.Orders.{both-passed, after-passed, after-failed, passes-so, so-passes, in_order-passes, in_order-passed}

-- the bounds of an allowed frame
pub allowed-small : (paper : Paper) (page : Page) → is_allowed paper page ≡ true → (page.width ≤ 4096) × (page.height ≤ 4096)
allowed-small Letter page h = (grind (arith, nat_tests), grind (arith, nat_tests))
allowed-small Legal page h = (grind (arith, nat_tests), grind (arith, nat_tests))

-- the paper of the said border
pub paper-same : (wanted said : Paper) → paper_tested wanted said ≡ Ok tt → said ≡ wanted
paper-same Letter Letter h = refl
paper-same Legal Legal h = refl
paper-same Letter Legal h = absurd (cc)
paper-same Legal Letter h = absurd (cc)

pub same-paper : (wanted said : Paper) → said ≡ wanted → paper_tested wanted said ≡ Ok tt
same-paper Letter Letter h = refl
same-paper Legal Legal h = refl
same-paper Letter Legal h = absurd (cc)
same-paper Legal Letter h = absurd (cc)

-- a point that lies within a bound lies within a larger one
pub within-more : (m n : ℕ) (p : Point) → m ≤ n → IsPointWithin m p → IsPointWithin n p
within-more m n p more h = record {
  u = record { low = omega (arith, ints, h.u.low, more); high = omega (arith, ints, h.u.high, more) };
  v = record { low = omega (arith, ints, h.v.low, more); high = omega (arith, ints, h.v.high, more) };
}

-- the place that a border answers is the one of its list
pub at-point : (places : List Point) (k : ℕ) (p : Point) → slice_get places k ≡ Some p → point_at places k ≡ p
at-point places k p h = get_or_from_slice_get places k p (record { u = pos 0; v = pos 0 }) h

pub at-within : (n : ℕ) (places : List Point) (k : ℕ) (p : Point) → slice_get places k ≡ Some p → IsPointWithin n (point_at places k) → IsPointWithin n p
at-within n places k p h within = subst (IsPointWithin n) (at-point places k p h) within

-- where mark k is expected from a place that a border answers
pub predicted-at : (last k leader : ℕ) (places : List Point) (p q : Point) → leader ≡ leader_of last k → slice_get places leader ≡ Some p → q ≡ expected_from last k p → q ≡ prediction_of last places k
predicted-at last k leader places p q leads h is =
    is ∙ (ap (expected_from last k) (sym (at-point places leader p h)) ∙ ap (λ j. expected_from last k (point_at places j)) leads)

-- accepted places lie within the frame, all of them
pub all-within : AcceptedAreFramed → (page : Page) (n m : ℕ) (places : List Point) → page.width ≤ m → page.height ≤ m → length places ≡ n
    → ((k : ℕ) → k < n → IsAccepted page (point_at places k)) → AreWithin m places
all-within framed page n m places wide high all accepted k p h =
    let inside : k < n = omega (arith, slice_get_within places k p h, all) in
    at-within m places k p h (framed page m (point_at places k) wide high (accepted k inside))

within-countable : (p : Point) → IsPointWithin 4096 p → IsIn countable p
within-countable p h = record {
  left = omega (arith, ints, h.u.low);
  right = omega (arith, ints, h.u.high);
  top = omega (arith, ints, h.v.low);
  bottom = omega (arith, ints, h.v.high);
}

-- what a border that passes is
pub record IsTestedBorder (page : Page) (border : MarkPlaces) : Type 0 where
  pub start : IsInCornerRegion (point_at border.places 0)
  pub chain : IsChain page (last_row border.paper) (marks border.paper) border.places
  pub closes : Closes (last_row border.paper) border.places

-- the step of a mark but the first
pub later-step : (last : ℕ) (places : List Point) (k : ℕ) → (k ≡ 0 → ⊥) → step_tested last places k ≡ near_tested k (prediction_of last places k) (point_at places k)
later-step last places zero h = absurd (h refl)
later-step last places (suc k) h = refl

-- two tests of one thing
pub same-test : {P : Type 0} (a b : Bool) → ((a ≡ true) ↔ P) → ((b ≡ true) ↔ P) → a ≡ b
same-test true b h g = sym (g.1 (h.0 refl))
same-test false true h g = h.1 (g.0 refl)
same-test false false h g = refl

-- how far a place lies from where it is expected
pub near-same : (k : ℕ) (predicted p : Point) (so : Bool) (a b : ℤ) → so ≡ is_in (near predicted) p → a ≡ p.u -ℤ predicted.u → b ≡ p.v -ℤ predicted.v → passes so (StepAt k a b) ≡ near_tested k predicted p
near-same k predicted p so a b is across down =
    ap (λ t. passes t (StepAt k a b)) is ∙ ap₂ (λ x y. passes (is_in (near predicted) p) (StepAt k x y)) across down

-- a mark, and then its step
pub mark-fails : (page : Page) (last : ℕ) (places : List Point) (k : ℕ) (p : Point) (fault : CheckFault) → slice_get places k ≡ Some p → mark_tested page k p ≡ Err fault → place_tested page last places k ≡ Err fault
mark-fails page last places k p fault at h =
    after-failed (mark_tested page k (point_at places k)) (step_tested last places k) fault (ap (mark_tested page k) (at-point places k p at) ∙ h)

pub mark-passes : (page : Page) (last : ℕ) (places : List Point) (k : ℕ) (p : Point) → slice_get places k ≡ Some p → mark_tested page k p ≡ Ok tt → place_tested page last places k ≡ step_tested last places k
mark-passes page last places k p at h =
    after-passed (mark_tested page k (point_at places k)) (step_tested last places k) (ap (mark_tested page k) (at-point places k p at) ∙ h)

-- the tests of a border, one after the other
module _ (page : Page) (border : MarkPlaces) where
  abbrev marked : Tested
  marked = in_order (place_tested page (last_row border.paper) border.places) 0 (marks border.paper)

  abbrev closing : Tested
  closing = closing_tested (last_row border.paper) border.places

  pub corner-fails : (p : Point) (fault : CheckFault) → slice_get border.places 0 ≡ Some p → corner_tested p ≡ Err fault → border_tested page border ≡ Err fault
  unfolding border_tested
  corner-fails p fault at h =
      after-failed (corner_tested (point_at border.places 0)) (marked >>= (λ _. closing)) fault (ap corner_tested (at-point border.places 0 p at) ∙ h)

  corner-passes : (p : Point) → slice_get border.places 0 ≡ Some p → corner_tested p ≡ Ok tt → border_tested page border ≡ (marked >>= (λ _. closing))
  unfolding border_tested
  corner-passes p at h =
      after-passed (corner_tested (point_at border.places 0)) (marked >>= (λ _. closing)) (ap corner_tested (at-point border.places 0 p at) ∙ h)

  pub places-fail : (p : Point) (fault : CheckFault) → slice_get border.places 0 ≡ Some p → corner_tested p ≡ Ok tt → marked ≡ Err fault → border_tested page border ≡ Err fault
  places-fail p fault at h fails = corner-passes p at h ∙ after-failed marked closing fault fails

  pub places-pass : (p : Point) → slice_get border.places 0 ≡ Some p → corner_tested p ≡ Ok tt → marked ≡ Ok tt → border_tested page border ≡ closing
  places-pass p at h passed = corner-passes p at h ∙ after-passed marked closing passed

-- what holds whatever is answered
pub on-ok : {P : Type 0} (r : Tested) → (is_ok r ≡ true → P) → OnOk r P
on-ok (Ok x) h = h refl
on-ok (Err fault) h = tt

pub ok-is : (r : Tested) → is_ok r ≡ true → r ≡ Ok tt
ok-is (Ok x) h = refl
ok-is (Err fault) h = absurd (cc)

module _ (tests : PlacesAreTested) (framed : AcceptedAreFramed) (page : Page) where
  -- a place that passes is accepted
  by-countable : (k : ℕ) (p : Point) (test : Bool) → is_in countable p ≡ test
      → cond test (passes (is_accepted page p) (MarkAt k p (deficit_of page p))) (Err (MarkAt k p light_deficit)) ≡ Ok tt → IsAccepted page p
  by-countable k p true is h = (tests.accepted page p).0 (passes-so (is_accepted page p) (MarkAt k p (deficit_of page p)) h)
  by-countable k p false is h = absurd (cc)

  pub mark-accepted : (k : ℕ) (p : Point) → mark_tested page k p ≡ Ok tt → IsAccepted page p
  mark-accepted k p h = by-countable k p (is_in countable p) refl h

  -- and the other way round
  pub accepted-mark : (k : ℕ) (p : Point) → page.width ≤ 4096 → page.height ≤ 4096 → IsAccepted page p → mark_tested page k p ≡ Ok tt
  accepted-mark k p wide high accepted =
      let in_reach : is_in countable p ≡ true = (tests.region countable p).1 (within-countable p (framed page 4096 p wide high accepted)) in
      ap (λ (b : Bool). cond b (passes (is_accepted page p) (MarkAt k p (deficit_of page p))) (Err (MarkAt k p light_deficit))) in_reach
      ∙ so-passes (is_accepted page p) (MarkAt k p (deficit_of page p)) ((tests.accepted page p).1 accepted)

  pub near-is : (k : ℕ) (predicted p : Point) → near_tested k predicted p ≡ Ok tt → IsNear predicted p
  near-is k predicted p h = (tests.region (near predicted) p).0 (passes-so (is_in (near predicted) p) _ h)

  pub is-near : (k : ℕ) (predicted p : Point) → IsNear predicted p → near_tested k predicted p ≡ Ok tt
  is-near k predicted p h = so-passes (is_in (near predicted) p) _ ((tests.region (near predicted) p).1 h)

  pub step-near : (last : ℕ) (places : List Point) (k : ℕ) → 0 < k → step_tested last places k ≡ Ok tt → IsNear (prediction_of last places k) (point_at places k)
  step-near last places zero some h = absurd (omega (arith, some))
  step-near last places (suc k) some h = near-is (suc k) (prediction_of last places (suc k)) (point_at places (suc k)) h

  pub near-step : (last : ℕ) (places : List Point) (k : ℕ) → (0 < k → IsNear (prediction_of last places k) (point_at places k)) → step_tested last places k ≡ Ok tt
  near-step last places zero h = refl
  near-step last places (suc k) h = is-near (suc k) (prediction_of last places (suc k)) (point_at places (suc k)) (h (omega arith))

  -- marks that pass in order lead from one to the next
  pub places-chain : (last n : ℕ) (places : List Point) → in_order (place_tested page last places) 0 n ≡ Ok tt → IsChain page last n places
  places-chain last n places h =
      let each : (k : ℕ) → k < n → (mark_tested page k (point_at places k) ≡ Ok tt) × (step_tested last places k ≡ Ok tt) =
      λ k less. both-passed (mark_tested page k (point_at places k)) (step_tested last places k) tt (in_order-passed (place_tested page last places) 0 n k h (omega arith) (omega (arith, less))) in
      record {
        accepted = λ k less. mark-accepted k (point_at places k) (each k less).0;
        near = λ k some less. step-near last places k some (each k less).1;
      }

  pub chain-places : (last n : ℕ) (places : List Point) → page.width ≤ 4096 → page.height ≤ 4096 → IsChain page last n places → in_order (place_tested page last places) 0 n ≡ Ok tt
  chain-places last n places wide high chain =
      in_order-passes (place_tested page last places) 0 n
      (λ k from less.
      let within : k < n = omega (arith, less) in
      after-passed (mark_tested page k (point_at places k)) (step_tested last places k) (accepted-mark k (point_at places k) wide high (chain.accepted k within))
      ∙ near-step last places k (λ some. chain.near k some within))

  pub border-passed : (border : MarkPlaces) → border_tested page border ≡ Ok tt → IsTestedBorder page border
  unfolding border_tested
  border-passed border h =
      let last : ℕ = last_row border.paper in
      let places : List Point = border.places in
      let marked : Tested = in_order (place_tested page last places) 0 (marks border.paper) in
      let first = both-passed (corner_tested (point_at places 0)) (marked >>= (λ _. closing_tested last places)) tt h in
      let rest = both-passed marked (closing_tested last places) tt first.1 in
      record {
        start = (tests.region corner_region (point_at places 0)).0 (passes-so (is_in corner_region (point_at places 0)) _ first.0);
        chain = places-chain last (marks border.paper) places rest.0;
        closes = near-is (marks_to last) (end_of last places) (right_end_of last places) rest.1;
      }

  pub border-passes : (border : MarkPlaces) → page.width ≤ 4096 → page.height ≤ 4096 → IsTestedBorder page border → border_tested page border ≡ Ok tt
  unfolding border_tested
  border-passes border wide high is =
      let last : ℕ = last_row border.paper in
      let places : List Point = border.places in
      let marked : Tested = in_order (place_tested page last places) 0 (marks border.paper) in
      after-passed (corner_tested (point_at places 0)) (marked >>= (λ _. closing_tested last places))
      (so-passes (is_in corner_region (point_at places 0)) _ ((tests.region corner_region (point_at places 0)).1 is.start))
      ∙ (after-passed marked (closing_tested last places) (chain-places last (marks border.paper) places wide high is.chain)
      ∙ is-near (marks_to last) (end_of last places) (right_end_of last places) is.closes)
