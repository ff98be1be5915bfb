-- A contest's picture holds the middles of all its bubbles.
use Rattle.std.proofs.Common.{◌≡◌, ℕ, zero, suc, ◌+◌, ◌-◌, ◌<◌, ◌≤◌, ◌==◌, Bool, true, false, cond, List, [], ◌∷◌, refl, sym, ap, ◌∙◌, subst, arith, ℤ, pos, negsuc, ◌+ℤ◌, ◌-ℤ◌, ◌≤ℤ◌, ◌*◌}
use Rattle.std.specs.Prelude.{All, fold, slice_get, Some, Result, Ok, Err}
use Rattle.std.proofs.lemmas.Int.{ints, by_lt_z}
use Rattle.std.proofs.lemmas.List.Elements.{All-head, All-tail}
use Rattle.std.proofs.lemmas.Option.{same_Some}
use Rattle.vx_base.proofs.Integers.{natural-of}
use Rattle.vx_base.proofs.Numbers.{equal-yes}
use Rattle.vx_plane.specs.Plane.{Page}
use Rattle.vx_grid.specs.Borders.{MarkPlaces}
use Rattle.vx_grid.specs.Marks.{marks_to}
use Rattle.vx_grid.specs.Paper.{last_row}
use Rattle.vx_grid.specs.Places.{point_at}
use Rattle.vx_grid.specs.declared.places.Point.{Point}
use Rattle.vx_mark_model.specs.Mark.{IsAccepted, IsInFrame}
use Rattle.vx_fit.specs.Fit.{IsOnTheWay, left_mark, part_of, place_of, right_mark}
use Rattle.vx_election_model.specs.declared.election.Election.{Election}
use Rattle.vx_election_model.specs.Valid.{IsValid}
use Rattle.vx_layout.specs.declared.bubbles.Bubble.{Bubble}
use Rattle.vx_layout.specs.declared.pages.PagePlan.{PagePlan}
use Rattle.vx_layout.specs.Pages.{IsOnGrid}
use Rattle.vx_scan_model.specs.declared.fault.PageFault.{PageFault}
use Rattle.vx_scan_model.specs.declared.reading.PageReading.{PageReading}
use Rattle.vx_scan_model.specs.Certificate.{ReadingsAreCertificates}
use Rattle.vx_scan_model.specs.Named.{NamedStandOnGrid, named_plan}
use Rattle.vx_scan_model.specs.Reading.{reading_of}
use Rattle.vx_desk.specs.declared.region.Region.{Region}
use Rattle.vx_desk.specs.Shown.{Shown, bubbles_of, shown_by}
use Rattle.vx_desk.specs.Regions.{before_one, behind, middle_of, natural, nearest, past_one, region_block, region_round, with_bubble, with_place}
use Rattle.vx_desk.specs.Standing.{HoldsBubble, PicturesHoldBubbles}
use Rattle.vx_desk.proofs.Ways.{part_on_the_way}

-- a step from a on the way to b lies between bounds of both
between_bounds : (low high a b part : ℤ) → low ≤ℤ a → a ≤ℤ high → low ≤ℤ b → b ≤ℤ high → IsOnTheWay (b -ℤ a) part → (low ≤ℤ (a +ℤ part)) × ((a +ℤ part) ≤ℤ high)
between_bounds low high a b part a_low a_high b_low b_high way =
    by_lt_z b a
    (λ back. (omega (arith, ints, a_low, b_low, way.backwards (omega (arith, ints))), omega (arith, ints, a_high, b_high, way.backwards (omega (arith, ints)))))
    (λ on. (omega (arith, ints, a_low, b_low, way.forwards (omega (arith, ints))), omega (arith, ints, a_high, b_high, way.forwards (omega (arith, ints)))))

-- the mark at the left end of a row is one of the page's
left_there : (last row : ℕ) → row ≤ last → left_mark last row < marks_to last
left_there last row low = by (row == 0)
  where
    by : (b : Bool) → cond b 0 (34 + last - 1 + row) < 66 + 2 * last
    by true = omega arith
    by false = omega (arith, low)

-- a grid place between accepted marks lies in the frame
module _ (page : Page) (border : MarkPlaces) (col row : ℕ) (few : col ≤ 33) (low : row ≤ last_row border.paper)
    (accepted : (k : ℕ) → k < marks_to (last_row border.paper) → IsAccepted page (point_at border.places k)) where
  place_framed : IsInFrame page (place_of border col row)
  place_framed =
      let a : Point = point_at border.places (left_mark (last_row border.paper) row) in
      let b : Point = point_at border.places (right_mark row) in
      let at_a = (accepted (left_mark (last_row border.paper) row) (left_there (last_row border.paper) row low)).in_frame in
      let at_b = (accepted (right_mark row) (omega (arith, low))).in_frame in
      let across = between_bounds _ _ a.u b.u (part_of (b.u -ℤ a.u) col) at_a.left at_a.right at_b.left at_b.right (part_on_the_way (b.u -ℤ a.u) col few) in
      let down = between_bounds _ _ a.v b.v (part_of (b.v -ℤ a.v) col) at_a.top at_a.bottom at_b.top at_b.bottom (part_on_the_way (b.v -ℤ a.v) col few) in
      record { left = across.0; right = across.1; top = down.0; bottom = down.1 }

-- the nearest column or row of a frame to a number lies on its side of one in the frame
nearest_below : (size n : ℕ) (z : ℤ) → z ≤ℤ pos n → nearest size z ≤ n
nearest_below size n (pos m) h = omega (arith, ints, h)
nearest_below size n (negsuc m) h = omega arith

nearest_above : (size n : ℕ) (z : ℤ) → n < size → pos n ≤ℤ z → n ≤ nearest size z
nearest_above size n (pos m) low h = omega (arith, ints, low, h)
nearest_above size n (negsuc m) low h = absurd (omega (arith, ints, h))

natural_same : (z : ℤ) (n : ℕ) → z ≡ pos n → natural z ≡ n
natural_same z n is = ap natural is

-- how far it is behind where the picture begins
record IsSeen (from to : ℕ) (z : ℤ) : Type 0 where
  short : behind from z < to - from + 1
  at : pos (behind from z + from) ≡ z

seen : (size from to n : ℕ) (z : ℤ) → z ≡ pos n → n < size → from ≤ before_one size z → past_one size z ≤ to → IsSeen from to z
seen size from to n z is low begins ends =
    let first : before_one size z ≤ n = nearest_below size n (z -ℤ pos 25) (omega (arith, ints, is)) in
    let last : n ≤ past_one size z = nearest_above size n (z +ℤ pos 25) low (omega (arith, ints, is)) in
    let far : behind from z ≡ n - from = natural_same (z -ℤ pos from) (n - from) (omega (arith, ints, is, first, begins)) in
    record {
      short = omega (arith, far, first, begins, last, ends);
      at = ap pos sum ∙ sym is;
    }
  where
    sum : behind from z + from ≡ n
    sum =
        let first : before_one size z ≤ n = nearest_below size n (z -ℤ pos 25) (omega (arith, ints, is)) in
        let far : behind from z ≡ n - from = natural_same (z -ℤ pos from) (n - from) (omega (arith, ints, is, first, begins)) in
        omega (arith, far, first, begins)

-- a region goes on by the margin on each side of a place
record Reaches (page : Page) (region : Region) (place : Point) : Type 0 where
  left : region.left ≤ before_one page.width place.u
  right : past_one page.width place.u ≤ region.right
  top : region.top ≤ before_one page.height place.v
  bottom : past_one page.height place.v ≤ region.bottom

reaches_it : (page : Page) (region : Region) (place : Point) → Reaches page (with_place page region place) place
reaches_it page region place = record { left = omega arith; right = omega arith; top = omega arith; bottom = omega arith }

reaches_still : (page : Page) (region : Region) (place other : Point) → Reaches page region place → Reaches page (with_place page region other) place
reaches_still page region place other reaches = record {
  left = omega (arith, reaches.left);
  right = omega (arith, reaches.right);
  top = omega (arith, reaches.top);
  bottom = omega (arith, reaches.bottom);
}

module _ (number : ℕ) (shown : Shown) where
  -- with one bubble more
  still : (region : Region) (place : Point) (bubble : Bubble) → Reaches shown.page region place → Reaches shown.page (with_bubble number shown region bubble) place
  still region place bubble reaches = by (bubble.contest == number)
    where
      by : (b : Bool) → Reaches shown.page (cond b (with_place shown.page region (middle_of shown bubble)) region) place
      by true = reaches_still shown.page region place (middle_of shown bubble) reaches
      by false = reaches

  its_own : (region : Region) (bubble : Bubble) → bubble.contest ≡ number → Reaches shown.page (with_bubble number shown region bubble) (middle_of shown bubble)
  its_own region bubble is =
      let At : Bool → Type 0 = λ b. Reaches shown.page (cond b (with_place shown.page region (middle_of shown bubble)) region) (middle_of shown bubble) in
      subst At (sym (equal-yes bubble.contest number is)) (reaches_it shown.page region (middle_of shown bubble))

  -- with all of some
  all_still : (bubbles : List Bubble) (region : Region) (place : Point) → Reaches shown.page region place → Reaches shown.page (fold (with_bubble number shown) region bubbles) place
  all_still [] region place reaches = reaches
  all_still (bubble ∷ bubbles) region place reaches = all_still bubbles (with_bubble number shown region bubble) place (still region place bubble reaches)

  each_own : (bubbles : List Bubble) (region : Region) (i : ℕ) (bubble : Bubble) → slice_get bubbles i ≡ Some bubble → bubble.contest ≡ number
      → Reaches shown.page (fold (with_bubble number shown) region bubbles) (middle_of shown bubble)
  each_own [] region i bubble at is = absurd cc
  each_own (first ∷ bubbles) region zero bubble at is =
      let Reached : Bubble → Type 0 = λ next. Reaches shown.page (fold (with_bubble number shown) (with_bubble number shown region next) bubbles) (middle_of shown bubble) in
      subst Reached (sym (same_Some first bubble at)) (all_still bubbles (with_bubble number shown region bubble) (middle_of shown bubble) (its_own region bubble is))
  each_own (first ∷ bubbles) region (suc i) bubble at is = each_own bubbles (with_bubble number shown region first) i bubble at is

-- a place in the frame that a region reaches is held
held : (shown : Shown) (region : Region) (bubble : Bubble) → IsInFrame shown.page (middle_of shown bubble) → Reaches shown.page region (middle_of shown bubble) → HoldsBubble shown region bubble
held shown region bubble framed reaches =
    let place : Point = middle_of shown bubble in
    let column = natural-of place.u (omega (arith, ints, framed.left)) in
    let row = natural-of place.v (omega (arith, ints, framed.top)) in
    let across = seen shown.page.width region.left region.right column.0 place.u column.1 (omega (arith, ints, framed.right, column.1)) reaches.left reaches.right in
    let down = seen shown.page.height region.top region.bottom row.0 place.v row.1 (omega (arith, ints, framed.bottom, row.1)) reaches.top reaches.bottom in
    record {
      x = across.short;
      y = down.short;
      column = across.at;
      row = down.at;
      left = reaches.left;
      right = reaches.right;
      top = reaches.top;
      bottom = reaches.bottom;
    }

-- what holds of each element holds of the one at a place
at_place : {X : Type 0} (P : X → Type 0) (xs : List X) (i : ℕ) (x : X) → All P xs → slice_get xs i ≡ Some x → P x
at_place P [] i x each at = absurd cc
at_place P (y ∷ xs) zero x each at = subst P (same_Some y x at) (All-head P y xs each)
at_place P (y ∷ xs) (suc i) x each at = at_place P xs i x (All-tail P y xs each) at

module _ (certified : ReadingsAreCertificates) (grid : NamedStandOnGrid) (election : Election) (image : Page) (reading : PageReading) (valid : IsValid election) (read : reading_of election image ≡ Ok reading) where
  on_grid : (planned : Result PagePlan PageFault) → named_plan election reading.code ≡ planned → (i : ℕ) (bubble : Bubble) → slice_get (bubbles_of planned) i ≡ Some bubble → IsOnGrid election.paper bubble
  on_grid (Err fault) is i bubble at = absurd cc
  on_grid (Ok plan) is i bubble at = at_place (IsOnGrid election.paper) plan.bubbles i bubble (grid election reading.code plan valid is).on_grid at

  framed : (i : ℕ) (bubble : Bubble) → slice_get (shown_by election image reading).bubbles i ≡ Some bubble → IsInFrame (shown_by election image reading).page (middle_of (shown_by election image reading) bubble)
  framed i bubble at =
      let stands = on_grid (named_plan election reading.code) refl i bubble at in
      let cert = certified election image reading valid read in
      let last : last_row reading.border.paper ≡ last_row election.paper = ap last_row cert.of_paper in
      place_framed (shown_by election image reading).page reading.border bubble.col bubble.row (omega (arith, stands.col, stands.few))
      (omega (arith, stands.low, stands.high, last))
      (λ k low. cert.chain.accepted k (omega (arith, low, last)))

pub hold_bubbles : ReadingsAreCertificates → NamedStandOnGrid → PicturesHoldBubbles
hold_bubbles certified grid election image reading contest place bubble valid read at =
    let shown : Shown = shown_by election image reading in
    held shown (region_round contest bubble.contest shown) bubble (framed certified grid election image reading valid read place bubble at)
    (each_own bubble.contest shown shown.bubbles (region_block contest bubble.contest shown) place bubble at refl)
