-- The ink of a simulated voter is that of the marks.
use Rattle.std.proofs.Common.{◌≡◌, ◌≢◌, ◌⊎◌, inl, inr, ℕ, ◌+◌, ◌-◌, ◌≤◌, ◌<◌, min, Bool, true, false, not, ◌&&◌, ◌||◌, List, length, ℤ, pos, negsuc, ◌+ℤ◌, ◌-ℤ◌, refl, ap, sym, subst, ◌∙◌, arith}
use Rattle.std.specs.Prelude.{slice_index_or, nat_lt}
use Rattle.std.proofs.lemmas.Int.{ints}
use Rattle.std.proofs.lemmas.Bool.{cases_eq, false≢true}
use Rattle.rand_pcg.specs.Lcg.{Lcg}
use Rattle.vx_base.proofs.Booleans.{and-left, and-right}
use Rattle.vx_base.proofs.Numbers.{below-from_no}
use Rattle.vx_plane.specs.Plane.{Pixels, placed}
use Rattle.vx_plane.specs.Count.{count_in}
use Rattle.vx_plane.proofs.Counts.{count_in-le}
use Rattle.vx_plane.proofs.Pages.{in_any-some, in_any-one, rectangle-inside, rectangle-sides}
use Rattle.vx_geom.proofs.Placed.{placed-count}
use Rattle.vx_grid.specs.declared.paper.Paper.{Paper}
use Rattle.vx_grid.specs.declared.state.Thresholds.{Thresholds}
use Rattle.vx_grid.specs.Grid.{x_of, y_of}
use Rattle.vx_grid.specs.Sizes as sizes
use Rattle.vx_grid.specs.Sizes.{zone_of}
use Rattle.vx_election_model.specs.Valid.{AreThresholds}
use Rattle.vx_layout.specs.declared.bubbles.Bubble.{Bubble}
use Rattle.vx_layout.specs.declared.pages.PagePlan.{PagePlan}
use Rattle.vx_layout.specs.Print.{inner_ellipse, bubble_box, outline, bubble_pixels}
use Rattle.vx_layout.specs.Zones.{bubble_zone_of, bubble_box_of}
use Rattle.vx_layout.specs.Printed.{KeepsClear}
use Rattle.vx_margin.specs.Shown.{count_round}
use Rattle.vx_scan_model.specs.Ink.{added_to, bubble_at, HasInk, IsInked}
use Rattle.vx_simulate.specs.Draws.{draw}
use Rattle.vx_simulate.specs.declared.ink.Ink.{Ink}
use Rattle.vx_simulate.specs.declared.ink.Ink.TheVariants.{FirstPixels, WholeBox}
use Rattle.vx_simulate.specs.Ink.{ink_pixels, draw_mark, draw_ink, draw_inks, inked_bubble, inked}
use Rattle.vx_simulate.proofs.Counting.{count-inside}
use Rattle.vx_simulate.proofs.Drawn.{draw-below, all-at}
use Rattle.vx_simulate.proofs.Fronts.{count-first}

inner-in_box : count_in (negsuc 19) (negsuc 12) 40 26 inner_ellipse ≡ 624
unfolding count_in
inner-in_box = refl

-- the pixels of a bubble's box that aren't its outline
abbrev unprinted : Pixels → Pixels
unprinted set i j = set i j && not (outline i j)

box-unprinted : count_in (negsuc 19) (negsuc 12) 40 26 (unprinted bubble_box) ≡ 848
unfolding count_in outline
box-unprinted = refl

ink-in_box : (ink : Ink) (i j : ℤ) → ink_pixels ink i j ≡ true → bubble_box i j ≡ true
unfolding ink_pixels
ink-in_box (FirstPixels n) i j h = and-left _ _ h
ink-in_box WholeBox i j h = h

-- what lies inside the outline isn't printed
inner-unprinted : (box outer inner : Bool) → inner ≡ true → not (box && (outer && not inner)) ≡ true
inner-unprinted true true true h = refl
inner-unprinted true false true h = refl
inner-unprinted false outer true h = refl
inner-unprinted true true false h = absurd (false≢true h)
inner-unprinted true false false h = absurd (false≢true h)
inner-unprinted false outer false h = refl

-- ink counts the pixels that it adds to the print
first-unprinted : (n : ℕ) (i j : ℤ) → ink_pixels (FirstPixels n) i j ≡ true → unprinted (ink_pixels (FirstPixels n)) i j ≡ true
unfolding ink_pixels outline
first-unprinted n i j h =
    let inner : inner_ellipse i j ≡ true = and-left _ _ (and-right _ _ h) in
    both _ _ h (inner-unprinted _ _ _ inner)
  where
    both : (a b : Bool) → a ≡ true → b ≡ true → (a && b) ≡ true
    both true b h g = g
    both false b h g = h

first-many : (n : ℕ) → count_in (negsuc 19) (negsuc 12) 40 26 (ink_pixels (FirstPixels n)) ≡ min 624 n
unfolding ink_pixels
first-many n = count-first (negsuc 19) (negsuc 12) 40 inner_ellipse n 26 ∙ ap (λ m. min m n) inner-in_box

first-added : (n : ℕ) → min 624 n ≤ count_in (negsuc 19) (negsuc 12) 40 26 (unprinted (ink_pixels (FirstPixels n)))
first-added n =
    let many : count_in (negsuc 19) (negsuc 12) 40 26 (ink_pixels (FirstPixels n)) ≡ min 624 n = first-many n in
    let most : count_in (negsuc 19) (negsuc 12) 40 26 (ink_pixels (FirstPixels n)) ≤ count_in (negsuc 19) (negsuc 12) 40 26 (unprinted (ink_pixels (FirstPixels n))) =
    count_in-le (negsuc 19) (negsuc 12) 40 26 (ink_pixels (FirstPixels n)) (unprinted (ink_pixels (FirstPixels n))) (λ i j a b c d h. first-unprinted n i j h) in
    omega (arith, many, most)

whole-added : count_in (negsuc 19) (negsuc 12) 40 26 (unprinted (ink_pixels WholeBox)) ≡ 848
unfolding ink_pixels
whole-added = box-unprinted

-- a mark adds enough, a slip little
mark-added : (thresholds : Thresholds) (g : Lcg) → AreThresholds thresholds → thresholds.def + 12 ≤ count_in (negsuc 19) (negsuc 12) 40 26 (unprinted (ink_pixels (draw_ink thresholds true g).0))
mark-added thresholds g are = by_test (nat_lt 612 thresholds.def) refl
  where
    by_test : (test : Bool) → nat_lt 612 thresholds.def ≡ test → thresholds.def + 12 ≤ count_in (negsuc 19) (negsuc 12) 40 26 (unprinted (ink_pixels (draw_mark test thresholds g).0))
    by_test true e = (let whole = whole-added in omega (arith, whole, are.high))
    by_test false e =
        let most : thresholds.def ≤ 612 = below-from_no 612 thresholds.def e in
        let some : 0 < 624 - thresholds.def - 11 = omega (arith, most) in
        let more : (draw (624 - thresholds.def - 11) g).0 < 624 - thresholds.def - 11 = draw-below (624 - thresholds.def - 11) g some in
        let added = first-added (thresholds.def + 12 + (draw (624 - thresholds.def - 11) g).0) in
        omega (arith, most, more, added)

slip-added : (thresholds : Thresholds) (g : Lcg) → AreThresholds thresholds → count_in (negsuc 19) (negsuc 12) 40 26 (ink_pixels (draw_ink thresholds false g).0) + 13 ≤ thresholds.marg
slip-added thresholds g are =
    let some : 0 < thresholds.marg - 12 = omega (arith, are.low) in
    let few : (draw (thresholds.marg - 12) g).0 < thresholds.marg - 12 = draw-below (thresholds.marg - 12) g some in
    let many = first-many (min 624 (draw (thresholds.marg - 12) g).0) in
    omega (arith, few, many, are.low)

abbrev pub no_bubble : Bubble
no_bubble = record { contest = 0; option = 0; col = 0; row = 0 }

-- the sides of a rectangle round a centre
pub box-sides : (paper : Paper) (bubble : Bubble) (x y : ℤ) → bubble_box (x -ℤ pos (x_of bubble.col)) (y -ℤ pos (y_of paper bubble.row)) ≡ true → bubble_box_of paper bubble x y ≡ true
box-sides paper bubble x y h =
    let cx : ℕ = x_of bubble.col in
    let cy : ℕ = y_of paper bubble.row in
    let sides = rectangle-sides (pos 0 -ℤ pos 20) (pos 0 -ℤ pos 13) 40 26 (x -ℤ pos cx) (y -ℤ pos cy) h in
    rectangle-inside (pos cx -ℤ pos 20) (pos cy -ℤ pos 13) 40 26 x y (omega (arith, ints, sides.0)) (omega (arith, ints, sides.1)) (omega (arith, ints, sides.2)) (omega (arith, ints, sides.3))

pub box-zoned : (paper : Paper) (bubble : Bubble) (x y : ℤ) → bubble_box_of paper bubble x y ≡ true → bubble_zone_of paper bubble x y ≡ true
box-zoned paper bubble x y h =
    let cx : ℕ = x_of bubble.col in
    let cy : ℕ = y_of paper bubble.row in
    let sides = rectangle-sides (pos cx -ℤ pos 20) (pos cy -ℤ pos 13) 40 26 x y h in
    rectangle-inside (pos cx -ℤ pos 36) (pos cy -ℤ pos 25) 72 50 x y (omega (arith, ints, sides.0)) (omega (arith, ints, sides.1)) (omega (arith, ints, sides.2)) (omega (arith, ints, sides.3))

-- the ink of a bubble lies in its box
pub ink-boxed : (plan : PagePlan) (inks : List Ink) (n : ℕ) (x y : ℤ) → inked_bubble plan inks n x y ≡ true → bubble_box_of plan.paper (bubble_at plan n) x y ≡ true
ink-boxed plan inks n x y h = box-sides plan.paper (bubble_at plan n) x y (ink-in_box (slice_index_or inks n (FirstPixels 0)) _ _ h)

round-count : (cx cy : ℤ) (shape : Pixels) → count_in (cx -ℤ pos 20) (cy -ℤ pos 13) 40 26 (placed cx cy shape) ≡ count_in (negsuc 19) (negsuc 12) 40 26 shape
round-count cx cy shape =
    let left : cx -ℤ pos 20 ≡ negsuc 19 +ℤ cx = omega (arith, ints) in
    let top : cy -ℤ pos 13 ≡ negsuc 12 +ℤ cy = omega (arith, ints) in
    ap (λ z. count_in z (cy -ℤ pos 13) 40 26 (placed cx cy shape)) left ∙ ap (λ z. count_in (negsuc 19 +ℤ cx) z 40 26 (placed cx cy shape)) top
    ∙ placed-count (negsuc 19) (negsuc 12) cx cy 40 26 shape

-- what was added isn't printed, but in the other set
added-by : (print more : Bool) → ((print || more) && not print) ≡ true → more ≡ true
added-by false more h = and-left more true h
added-by true more h = absurd (false≢true h)

is-added : (print more : Bool) → print ≡ false → more ≡ true → ((print || more) && not print) ≡ true
is-added false true h g = refl
is-added false false h g = g
is-added true more h g = absurd (false≢true (sym h))

not-true : (b : Bool) → not b ≡ true → b ≡ false
not-true true h = absurd (false≢true h)
not-true false h = refl

module _ (plan : PagePlan) (keeps : KeepsClear plan) (print : Pixels)
    (outlined : (n : ℕ) → n < length plan.bubbles → (x y : ℤ) → bubble_zone_of plan.paper (bubble_at plan n) x y ≡ true → print x y ≡ bubble_pixels plan.paper (bubble_at plan n) x y)
    (thresholds : Thresholds) (are : AreThresholds thresholds) (marks : List Bool) (g : Lcg) (all : length marks ≡ length plan.bubbles) where
  abbrev inks : List Ink
  inks = (draw_inks thresholds marks g).0

  abbrev paper : Pixels
  paper = inked plan inks print

  inked-box : (n : ℕ) (x y : ℤ) → inked_bubble plan inks n x y ≡ true → bubble_box_of plan.paper (bubble_at plan n) x y ≡ true
  inked-box n x y h = ink-boxed plan inks n x y h

  -- what was added is the ink of a bubble
  added-ink : (x y : ℤ) → added_to print paper x y ≡ true → (n : ℕ) × (n < length plan.bubbles) × (inked_bubble plan inks n x y ≡ true)
  unfolding inked
  added-ink x y h = in_any-some (length plan.bubbles) (inked_bubble plan inks) x y (added-by (print x y) _ h)

  added-zone : (x y : ℤ) → added_to print paper x y ≡ true → (n : ℕ) × (n < length plan.bubbles) × (bubble_zone_of plan.paper (bubble_at plan n) x y ≡ true)
  added-zone x y h = let k = added-ink x y h in (k.0, k.1, box-zoned plan.paper (bubble_at plan k.0) x y (inked-box k.0 x y k.2))

  ink-at : (n : ℕ) → n < length plan.bubbles → (state : Lcg) × (slice_index_or inks n (FirstPixels 0) ≡ (draw_ink thresholds (slice_index_or marks n false) state).0)
  ink-at n few = all-at (draw_ink thresholds) marks g n (FirstPixels 0) false (omega (arith, few, all))

  module _ (n : ℕ) (few : n < length plan.bubbles) where
    abbrev bubble : Bubble
    bubble = bubble_at plan n

    abbrev cx : ℤ
    cx = pos (x_of bubble.col)

    abbrev cy : ℤ
    cy = pos (y_of plan.paper bubble.row)

    -- in its zone nothing is added but its own ink
    own-ink : (x y : ℤ) → bubble_zone_of plan.paper bubble x y ≡ true → added_to print paper x y ≡ true → inked_bubble plan inks n x y ≡ true
    own-ink x y zone h = let k = added-ink x y h in own k.0 k.1 k.2 (cases_eq n k.0)
      where
        own : (k : ℕ) → k < length plan.bubbles → inked_bubble plan inks k x y ≡ true → (n ≡ k) ⊎ (n ≢ k) → inked_bubble plan inks n x y ≡ true
        own k within is (inl same) = subst (λ (m : ℕ). inked_bubble plan inks m x y ≡ true) (sym same) is
        own k within is (inr other) = absurd ((keeps.apart.each n k no_bubble few within other).apart x y zone (inked-box k x y is))

    -- its ink is added, where its outline isn't
    ink-added : (x y : ℤ) → bubble_box_of plan.paper bubble x y ≡ true → placed cx cy (unprinted (ink_pixels (slice_index_or inks n (FirstPixels 0)))) x y ≡ true → added_to print paper x y ≡ true
    unfolding inked bubble_pixels
    ink-added x y box h =
        let zone : bubble_zone_of plan.paper bubble x y ≡ true = box-zoned plan.paper bubble x y box in
        let blank : print x y ≡ false = outlined n few x y zone ∙ not-true _ (and-right _ _ h) in
        is-added (print x y) _ blank (in_any-one (length plan.bubbles) n (inked_bubble plan inks) x y few (and-left _ _ h))

    -- the box has what its ink adds
    box-added : count_in (negsuc 19) (negsuc 12) 40 26 (unprinted (ink_pixels (slice_index_or inks n (FirstPixels 0)))) ≤ count_round plan.paper sizes.bubble bubble.col bubble.row (added_to print paper)
    box-added =
        let ink : Pixels = unprinted (ink_pixels (slice_index_or inks n (FirstPixels 0))) in
        let same : count_in (cx -ℤ pos 20) (cy -ℤ pos 13) 40 26 (placed cx cy ink) ≡ count_in (negsuc 19) (negsuc 12) 40 26 ink = round-count cx cy ink in
        let most : count_in (cx -ℤ pos 20) (cy -ℤ pos 13) 40 26 (placed cx cy ink) ≤ count_in (cx -ℤ pos 20) (cy -ℤ pos 13) 40 26 (added_to print paper) =
        count_in-le (cx -ℤ pos 20) (cy -ℤ pos 13) 40 26 (placed cx cy ink) (added_to print paper)
        (λ x y a b c d h. ink-added x y (rectangle-inside (cx -ℤ pos 20) (cy -ℤ pos 13) 40 26 x y a b c d) h) in
        omega (arith, same, most)

    -- the zone has no more than its ink
    zone-added : count_round plan.paper (zone_of sizes.bubble) bubble.col bubble.row (added_to print paper) ≤ count_in (negsuc 19) (negsuc 12) 40 26 (ink_pixels (slice_index_or inks n (FirstPixels 0)))
    zone-added =
        let ink : Pixels = ink_pixels (slice_index_or inks n (FirstPixels 0)) in
        let own : count_in (cx -ℤ pos 36) (cy -ℤ pos 25) 72 50 (added_to print paper) ≤ count_in (cx -ℤ pos 36) (cy -ℤ pos 25) 72 50 (placed cx cy ink) =
        count_in-le (cx -ℤ pos 36) (cy -ℤ pos 25) 72 50 (added_to print paper) (placed cx cy ink)
        (λ x y a b c d h. own-ink x y (rectangle-inside (cx -ℤ pos 36) (cy -ℤ pos 25) 72 50 x y a b c d) h) in
        let inside : count_in (cx -ℤ pos 36) (cy -ℤ pos 25) 72 50 (placed cx cy ink) ≤ count_in (cx -ℤ pos 20) (cy -ℤ pos 13) 40 26 (placed cx cy ink) =
        count-inside (cx -ℤ pos 36) (cy -ℤ pos 25) 72 50 (cx -ℤ pos 20) (cy -ℤ pos 13) 40 26 (placed cx cy ink) (λ x y h. inked-box n x y h) in
        let same : count_in (cx -ℤ pos 20) (cy -ℤ pos 13) 40 26 (placed cx cy ink) ≡ count_in (negsuc 19) (negsuc 12) 40 26 ink = round-count cx cy ink in
        omega (arith, own, inside, same)

    has-ink : (mark : Bool) (state : Lcg) → slice_index_or inks n (FirstPixels 0) ≡ (draw_ink thresholds mark state).0 → HasInk mark thresholds plan.paper bubble (added_to print paper)
    has-ink true state is =
        let enough : thresholds.def + 12 ≤ count_in (negsuc 19) (negsuc 12) 40 26 (unprinted (ink_pixels (draw_ink thresholds true state).0)) = mark-added thresholds state are in
        let same : count_in (negsuc 19) (negsuc 12) 40 26 (unprinted (ink_pixels (slice_index_or inks n (FirstPixels 0)))) ≡ count_in (negsuc 19) (negsuc 12) 40 26 (unprinted (ink_pixels (draw_ink thresholds true state).0)) =
        ap (λ (ink : Ink). count_in (negsuc 19) (negsuc 12) 40 26 (unprinted (ink_pixels ink))) is in
        let box = box-added in
        omega (arith, enough, same, box)
    has-ink false state is =
        let few : count_in (negsuc 19) (negsuc 12) 40 26 (ink_pixels (draw_ink thresholds false state).0) + 13 ≤ thresholds.marg = slip-added thresholds state are in
        let same : count_in (negsuc 19) (negsuc 12) 40 26 (ink_pixels (slice_index_or inks n (FirstPixels 0))) ≡ count_in (negsuc 19) (negsuc 12) 40 26 (ink_pixels (draw_ink thresholds false state).0) =
        ap (λ (ink : Ink). count_in (negsuc 19) (negsuc 12) 40 26 (ink_pixels ink)) is in
        let zone = zone-added in
        omega (arith, few, same, zone)

  pub is-inked : IsInked thresholds plan print marks paper
  unfolding inked
  is-inked = record {
    printed = λ x y h. shown (print x y) _ h;
    frame = record { apart = λ x y added there. let k = added-zone x y added in (keeps.clear.zones_from_frame k.0 no_bubble k.1).apart x y k.2 there };
    codes = record { apart = λ x y added there. let k = added-zone x y added in (keeps.clear.zones_from_code k.0 no_bubble k.1).apart x y k.2 there };
    reserved = record { apart = λ x y added there. let k = added-zone x y added in (keeps.clear.zones_from_reserved k.0 no_bubble k.1).apart x y k.2 there };
    all = all;
    ink = λ n few. let at = ink-at n few in has-ink n few (slice_index_or marks n false) at.0 at.1;
  }
    where
      shown : (a b : Bool) → a ≡ true → (a || b) ≡ true
      shown true b h = refl
      shown false b h = absurd (false≢true h)
