-- What is printed where on a page.
use Rattle.std.proofs.Common.{◌≡◌, ◌≢◌, ◌⊎◌, inl, inr, ℕ, ◌+◌, ◌-◌, ◌*◌, ◌≤◌, ◌<◌, Bool, true, false, not, ◌||◌, if◌then◌else◌, List, [], length, ℤ, pos, ◌+ℤ◌, ◌-ℤ◌, ◌≤ℤ◌, ◌<ℤ◌, refl, ap, sym, subst, ◌∙◌, arith}
use Rattle.std.specs.Prelude.{slice_index_or}
use Rattle.std.proofs.lemmas.Int.{ints}
use Rattle.std.proofs.lemmas.Bool.{cases_eq, true≢false}
use Rattle.vx_base.proofs.Booleans.{is-false, same-bool, and-left}
use Rattle.vx_plane.specs.Plane.{Pixels, rectangle, in_any, any_of, nowhere}
use Rattle.vx_plane.proofs.Pages.{in_any-some, in_any-one, any_of-some, any_of-one, rectangle-inside, rectangle-sides, rectangle-outside}
use Rattle.vx_grid.specs.declared.paper.Paper.{Paper}
use Rattle.vx_grid.specs.Paper.{last_row, first_y}
use Rattle.vx_grid.specs.Grid.{x_of, y_of, first_code_row, first_reserved_row, last_column}
use Rattle.vx_grid.specs.Marks.{timing_marks}
use Rattle.vx_grid.specs.Regions.{inner_region, frame_zone}
use Rattle.vx_grid.specs.Sizes as sizes
use Rattle.vx_grid.specs.Sizes.{zone_of, round}
use Rattle.vx_grid.proofs.Papers.{last-row_low}
use Rattle.vx_code.specs.Code.{place_from, place_of_box, reserved_place}
use Rattle.vx_layout.specs.declared.bubbles.Bubble.{Bubble}
use Rattle.vx_layout.specs.declared.lines.TextLine.{TextLine}
use Rattle.vx_layout.specs.declared.pages.PagePlan.{PagePlan}
use Rattle.vx_layout.specs.Print.{box_pixels, printed_box, code_pixels, outline, bubble_pixels, line_pixels, print_of}
use Rattle.vx_layout.specs.Zones.{bubble_zone_of, bubble_box_of, box_zone_at, code_zones, reserved_zones}
use Rattle.vx_layout.specs.Printed.{KeepsClear}
use Rattle.vx_margin.specs.Marks.{IsInMark}
use Rattle.vx_margin.specs.Laws.{TimingMarksAreMarks}
use Rattle.vx_scan_model.specs.Ink.{bubble_at}

-- the sides of a thing round a centre
pub round-sides : (half_across half_down cx cy : ℕ) (x y : ℤ) → rectangle (pos cx -ℤ pos half_across) (pos cy -ℤ pos half_down) (half_across + half_across) (half_down + half_down) x y ≡ true
    → ((pos cx -ℤ pos half_across) ≤ℤ x) × (x <ℤ (pos cx +ℤ pos half_across)) × ((pos cy -ℤ pos half_down) ≤ℤ y) × (y <ℤ (pos cy +ℤ pos half_down))
round-sides a b cx cy x y h =
    let sides = rectangle-sides (pos cx -ℤ pos a) (pos cy -ℤ pos b) (a + a) (b + b) x y h in
    (sides.0, omega (arith, ints, sides.1), sides.2, omega (arith, ints, sides.3))

pub round-inside : (half_across half_down cx cy : ℕ) (x y : ℤ)
    → (pos cx -ℤ pos half_across) ≤ℤ x → x <ℤ (pos cx +ℤ pos half_across) → (pos cy -ℤ pos half_down) ≤ℤ y → y <ℤ (pos cy +ℤ pos half_down)
    → rectangle (pos cx -ℤ pos half_across) (pos cy -ℤ pos half_down) (half_across + half_across) (half_down + half_down) x y ≡ true
round-inside a b cx cy x y h i j k = rectangle-inside (pos cx -ℤ pos a) (pos cy -ℤ pos b) (a + a) (b + b) x y h (omega (arith, ints, i)) j (omega (arith, ints, k))

-- a mark at a border point lies in the frame zone
mark-in_zone : (paper : Paper) (c r : ℕ) (x y : ℤ) → (r ≡ 0) ⊎ (r ≡ last_row paper) ⊎ (c ≡ 0) ⊎ (c ≡ last_column) → IsInMark paper c r x y → frame_zone paper x y ≡ true
mark-in_zone paper c r x y (inl top) m = ap not (rectangle-outside (pos 178) (pos (first_y paper + 130)) 1344 (52 * last_row paper - 260) x y (inr (inr (inl (omega (arith, ints, m.bottom, top))))))
mark-in_zone paper c r x y (inr (inl bottom)) m =
    ap not
    (rectangle-outside (pos 178) (pos (first_y paper + 130)) 1344 (52 * last_row paper - 260) x y
    (inr (inr (inr (omega (arith, ints, m.top, bottom, last-row_low paper))))))
mark-in_zone paper c r x y (inr (inr (inl left))) m = ap not (rectangle-outside (pos 178) (pos (first_y paper + 130)) 1344 (52 * last_row paper - 260) x y (inl (omega (arith, ints, m.right, left))))
mark-in_zone paper c r x y (inr (inr (inr right))) m = ap not (rectangle-outside (pos 178) (pos (first_y paper + 130)) 1344 (52 * last_row paper - 260) x y (inr (inl (omega (arith, ints, m.left, right)))))

-- where the boxes of the page code stand
pub place-columns : (first n : ℕ) → n < 84 → (3 ≤ (place_from first n).0) × ((place_from first n).0 ≤ 30)
place-columns first n few = (omega arith, omega arith)

pub place-rows : (first n : ℕ) → n < 84 → (first ≤ (place_from first n).1) × ((place_from first n).1 ≤ first + 2)
place-rows first n few = (omega arith, omega arith)

pub place-once : (first n k : ℕ) → (place_from first n).0 ≡ (place_from first k).0 → (place_from first n).1 ≡ (place_from first k).1 → n ≡ k
place-once first n k column row = omega (arith, column, row)

-- a box of the page code lies in the inner region
box-inner : (paper : Paper) (n : ℕ) (x y : ℤ) → n < 84 → box_pixels paper n x y ≡ true → inner_region paper x y ≡ true
unfolding box_pixels
box-inner paper n x y few h =
    let c : ℕ = (place_of_box paper n).0 in
    let r : ℕ = (place_of_box paper n).1 in
    let sides = round-sides 14 10 (x_of c) (y_of paper r) x y h in
    let columns = place-columns (first_code_row paper) n few in
    let rows = place-rows (first_code_row paper) n few in
    rectangle-inside (pos 178) (pos (first_y paper + 130)) 1344 (52 * last_row paper - 260) x y
    (omega (arith, ints, sides.0, columns.0)) (omega (arith, ints, sides.1, columns.1))
    (omega (arith, ints, sides.2, rows.0, last-row_low paper)) (omega (arith, ints, sides.3, rows.1, last-row_low paper))

-- the outline of a bubble lies in its box
bubble-in_box : (paper : Paper) (bubble : Bubble) (x y : ℤ) → bubble_pixels paper bubble x y ≡ true → bubble_box_of paper bubble x y ≡ true
unfolding bubble_pixels outline
bubble-in_box paper bubble x y h =
    let sides = round-sides 20 13 0 0 (x -ℤ pos (x_of bubble.col)) (y -ℤ pos (y_of paper bubble.row)) (and-left _ _ h) in
    round-inside 20 13 (x_of bubble.col) (y_of paper bubble.row) x y
    (omega (arith, ints, sides.0)) (omega (arith, ints, sides.1)) (omega (arith, ints, sides.2)) (omega (arith, ints, sides.3))

-- and a box in its zone
pub box-in_zone : (paper : Paper) (bubble : Bubble) (x y : ℤ) → bubble_box_of paper bubble x y ≡ true → bubble_zone_of paper bubble x y ≡ true
box-in_zone paper bubble x y h =
    let sides = round-sides 20 13 (x_of bubble.col) (y_of paper bubble.row) x y h in
    round-inside 36 25 (x_of bubble.col) (y_of paper bubble.row) x y
    (omega (arith, ints, sides.0)) (omega (arith, ints, sides.1)) (omega (arith, ints, sides.2)) (omega (arith, ints, sides.3))

-- a place where only one of four sets has anything
only-first : (a b c d : Bool) → b ≡ false → c ≡ false → d ≡ false → ((a || b) || (c || d)) ≡ a
only-first a true c d h i j = cc
only-first a false true d h i j = cc
only-first a false false true h i j = cc
only-first true false false false h i j = refl
only-first false false false false h i j = refl

only-second : (a b c d : Bool) → a ≡ false → c ≡ false → d ≡ false → ((a || b) || (c || d)) ≡ b
only-second true b c d h i j = cc
only-second false b true d h i j = cc
only-second false b false true h i j = cc
only-second false true false false h i j = refl
only-second false false false false h i j = refl

only-third : (a b c d : Bool) → a ≡ false → b ≡ false → d ≡ false → ((a || b) || (c || d)) ≡ c
only-third true b c d h i j = cc
only-third false true c d h i j = cc
only-third false false c true h i j = cc
only-third false false true false h i j = refl
only-third false false false false h i j = refl

none-of : (a b c d : Bool) → a ≡ false → b ≡ false → c ≡ false → d ≡ false → ((a || b) || (c || d)) ≡ false
none-of a b c d h i j k = only-first a b c d i j k ∙ h

abbrev no_bubble : Bubble
no_bubble = record { contest = 0; option = 0; col = 0; row = 0 }

abbrev no_line : TextLine
no_line = record { x = 0; y = 0; text = [] }

module _ (are : TimingMarksAreMarks) (plan : PagePlan) (keeps : KeepsClear plan) (boxes : List Bool) where
  marks-in_zone : (x y : ℤ) → timing_marks plan.paper x y ≡ true → frame_zone plan.paper x y ≡ true
  marks-in_zone x y h =
      let m = (are plan.paper).some x y h in
      mark-in_zone plan.paper m.0 m.1 x y m.2.side m.3

  -- a printed box of the page code is a box
  box-of : (n : ℕ) (x y : ℤ) → printed_box plan.paper boxes n x y ≡ true → box_pixels plan.paper n x y ≡ true
  box-of n x y = printed (slice_index_or boxes n false)
    where
      printed : (is : Bool) → (if is then box_pixels plan.paper n else nowhere) x y ≡ true → box_pixels plan.paper n x y ≡ true
      printed true h = h
      printed false h = cc

  code-inner : (x y : ℤ) → code_pixels plan.paper boxes x y ≡ true → frame_zone plan.paper x y ≡ false
  unfolding code_pixels
  code-inner x y h =
      let k = in_any-some 84 (printed_box plan.paper boxes) x y h in
      ap not (box-inner plan.paper k.0 x y k.1 (box-of k.0 x y k.2))

  bubble-zoned : (k : ℕ) (x y : ℤ) → bubble_pixels plan.paper (bubble_at plan k) x y ≡ true → bubble_zone_of plan.paper (bubble_at plan k) x y ≡ true
  bubble-zoned k x y h = box-in_zone plan.paper (bubble_at plan k) x y (bubble-in_box plan.paper (bubble_at plan k) x y h)

  -- in the zone of the frame the timing marks are all that is printed
  pub frame-printed : (x y : ℤ) → frame_zone plan.paper x y ≡ true → print_of plan boxes x y ≡ timing_marks plan.paper x y
  unfolding print_of
  frame-printed x y zone =
      only-first _ _ _ _
      (is-false _ (λ code. true≢false (sym zone ∙ code-inner x y code)))
      (is-false _ (λ some. let k = any_of-some plan.bubbles no_bubble (bubble_pixels plan.paper) x y some in
      (keeps.clear.zones_from_frame k.0 no_bubble k.1).apart x y (bubble-zoned k.0 x y k.2) zone))
      (is-false _ (λ some. let k = any_of-some plan.texts no_line line_pixels x y some in
      (keeps.clear.text_from_frame k.0 no_line k.1).apart x y k.2 zone))

  -- in a bubble's zone its outline is
  pub bubble-printed : (n : ℕ) → n < length plan.bubbles → (x y : ℤ) → bubble_zone_of plan.paper (bubble_at plan n) x y ≡ true
      → print_of plan boxes x y ≡ bubble_pixels plan.paper (bubble_at plan n) x y
  unfolding print_of code_pixels code_zones box_pixels
  bubble-printed n few x y zone =
      only-third _ _ _ _
      (is-false _ (λ mark. (keeps.clear.zones_from_frame n no_bubble few).apart x y zone (marks-in_zone x y mark)))
      (is-false _ (λ code. let k = in_any-some 84 (printed_box plan.paper boxes) x y code in
      (keeps.clear.zones_from_code n no_bubble few).apart x y zone (in_any-one 84 k.0 (λ m. box_zone_at plan.paper (place_of_box plan.paper m)) x y k.1 (code-zoned k.0 x y (box-of k.0 x y k.2)))))
      (is-false _ (λ some. let k = any_of-some plan.texts no_line line_pixels x y some in
      ((keeps.clear.zones_from_text k.0 no_line k.1) n no_bubble few).apart x y zone k.2))
      ∙ same-bool _ _ own (any_of-one plan.bubbles n no_bubble (bubble_pixels plan.paper) x y few)
    where
      code-zoned : (k : ℕ) (x y : ℤ) → round sizes.code_box (x_of (place_of_box plan.paper k).0) (y_of plan.paper (place_of_box plan.paper k).1) x y ≡ true → box_zone_at plan.paper (place_of_box plan.paper k) x y ≡ true
      code-zoned k x y h =
          let sides = round-sides 14 10 (x_of (place_of_box plan.paper k).0) (y_of plan.paper (place_of_box plan.paper k).1) x y h in
          round-inside 30 22 (x_of (place_of_box plan.paper k).0) (y_of plan.paper (place_of_box plan.paper k).1) x y
          (omega (arith, ints, sides.0)) (omega (arith, ints, sides.1)) (omega (arith, ints, sides.2)) (omega (arith, ints, sides.3))

      one : (k : ℕ) → k < length plan.bubbles → bubble_pixels plan.paper (bubble_at plan k) x y ≡ true → (n ≡ k) ⊎ (n ≢ k) → bubble_pixels plan.paper (bubble_at plan n) x y ≡ true
      one k within h (inl same) = subst (λ (m : ℕ). bubble_pixels plan.paper (bubble_at plan m) x y ≡ true) (sym same) h
      one k within h (inr other) = absurd ((keeps.apart.each n k no_bubble few within other).apart x y zone (bubble-in_box plan.paper (bubble_at plan k) x y h))

      own : any_of plan.bubbles (bubble_pixels plan.paper) x y ≡ true → bubble_pixels plan.paper (bubble_at plan n) x y ≡ true
      own some = let k = any_of-some plan.bubbles no_bubble (bubble_pixels plan.paper) x y some in one k.0 k.1 k.2 (cases_eq n k.0)

  -- the place of a box of the page code, by the row that its rows begin at
  abbrev zone_from : ℕ → ℕ → Pixels
  zone_from first n = box_zone_at plan.paper (place_from first n)

  -- the zone of a code box keeps clear of the timing marks, of bubbles and of texts; so does a reserved zone
  zone-sides : (first n : ℕ) (x y : ℤ) → n < 84 → zone_from first n x y ≡ true
      → (pos 172 ≤ℤ x) × (x <ℤ pos 1528) × ((pos (first_y plan.paper + 52 * first) -ℤ pos 22) ≤ℤ y) × (y <ℤ (pos (first_y plan.paper + 52 * (first + 2)) +ℤ pos 22))
  zone-sides first n x y few h =
      let sides = round-sides 30 22 (x_of (place_from first n).0) (y_of plan.paper (place_from first n).1) x y h in
      let columns = place-columns first n few in
      let rows = place-rows first n few in
      (omega (arith, ints, sides.0, columns.0), omega (arith, ints, sides.1, columns.1), omega (arith, ints, sides.2, rows.0), omega (arith, ints, sides.3, rows.1))

  no-mark : (first n : ℕ) (x y : ℤ) → n < 84 → 2 ≤ first → first + 4 ≤ last_row plan.paper → zone_from first n x y ≡ true → timing_marks plan.paper x y ≡ false
  no-mark first n x y few low high h =
      is-false _ (λ mark. let m = (are plan.paper).some x y mark in apart m.0 m.1 m.2.side m.3)
    where
      sides : (pos 172 ≤ℤ x) × (x <ℤ pos 1528) × ((pos (first_y plan.paper + 52 * first) -ℤ pos 22) ≤ℤ y) × (y <ℤ (pos (first_y plan.paper + 52 * (first + 2)) +ℤ pos 22))
      sides = zone-sides first n x y few h

      apart : (c r : ℕ) → (r ≡ 0) ⊎ (r ≡ last_row plan.paper) ⊎ (c ≡ 0) ⊎ (c ≡ last_column) → IsInMark plan.paper c r x y → ⊥
      apart c r (inl top) m = omega (arith, ints, m.bottom, top, sides.2, low)
      apart c r (inr (inl bottom)) m = omega (arith, ints, m.top, bottom, sides.3, high)
      apart c r (inr (inr (inl left))) m = omega (arith, ints, m.right, left, sides.0)
      apart c r (inr (inr (inr right))) m = omega (arith, ints, m.left, right, sides.1)

  box-sides : (k : ℕ) (x y : ℤ) → box_pixels plan.paper k x y ≡ true
      → ((pos (x_of (place_of_box plan.paper k).0) -ℤ pos 14) ≤ℤ x) × (x <ℤ (pos (x_of (place_of_box plan.paper k).0) +ℤ pos 14))
      × ((pos (y_of plan.paper (place_of_box plan.paper k).1) -ℤ pos 10) ≤ℤ y) × (y <ℤ (pos (y_of plan.paper (place_of_box plan.paper k).1) +ℤ pos 10))
  unfolding box_pixels
  box-sides k x y h = round-sides 14 10 (x_of (place_of_box plan.paper k).0) (y_of plan.paper (place_of_box plan.paper k).1) x y h

  -- in the zone of a box of the page code that box is printed, if it is
  pub code-printed : (n : ℕ) → n < 84 → (x y : ℤ) → box_zone_at plan.paper (place_of_box plan.paper n) x y ≡ true
      → print_of plan boxes x y ≡ printed_box plan.paper boxes n x y
  unfolding print_of code_pixels code_zones
  code-printed n few x y zone =
      only-second _ _ _ _
      (no-mark (first_code_row plan.paper) n x y few (omega (arith, last-row_low plan.paper)) (omega (arith, last-row_low plan.paper)) zone)
      (is-false _ (λ some. let k = any_of-some plan.bubbles no_bubble (bubble_pixels plan.paper) x y some in
      (keeps.clear.zones_from_code k.0 no_bubble k.1).apart x y (bubble-zoned k.0 x y k.2) in_zones))
      (is-false _ (λ some. let k = any_of-some plan.texts no_line line_pixels x y some in
      (keeps.clear.text_from_code k.0 no_line k.1).apart x y k.2 in_zones))
      ∙ same-bool _ _ own (in_any-one 84 n (printed_box plan.paper boxes) x y few)
    where
      in_zones : in_any 84 (λ m. box_zone_at plan.paper (place_of_box plan.paper m)) x y ≡ true
      in_zones = in_any-one 84 n (λ m. box_zone_at plan.paper (place_of_box plan.paper m)) x y few zone

      same : (k : ℕ) → k < 84 → box_pixels plan.paper k x y ≡ true → n ≡ k
      same k within h =
          let box = box-sides k x y h in
          let sides = round-sides 30 22 (x_of (place_of_box plan.paper n).0) (y_of plan.paper (place_of_box plan.paper n).1) x y zone in
          place-once (first_code_row plan.paper) n k (omega (arith, ints, box.0, box.1, sides.0, sides.1)) (omega (arith, ints, box.2, box.3, sides.2, sides.3))

      own : in_any 84 (printed_box plan.paper boxes) x y ≡ true → printed_box plan.paper boxes n x y ≡ true
      own some =
          let k = in_any-some 84 (printed_box plan.paper boxes) x y some in
          subst (λ (m : ℕ). printed_box plan.paper boxes m x y ≡ true) (sym (same k.0 k.1 (box-of k.0 x y k.2))) k.2

  -- in a reserved zone nothing is printed
  pub reserved-empty : (n : ℕ) → n < 84 → (x y : ℤ) → box_zone_at plan.paper (reserved_place n) x y ≡ true → print_of plan boxes x y ≡ false
  unfolding print_of code_pixels reserved_zones
  reserved-empty n few x y zone =
      none-of _ _ _ _
      (no-mark first_reserved_row n x y few (omega arith) (omega (arith, last-row_low plan.paper)) zone)
      (is-false _ (λ some. let k = in_any-some 84 (printed_box plan.paper boxes) x y some in apart k.0 k.1 (box-of k.0 x y k.2)))
      (is-false _ (λ some. let k = any_of-some plan.bubbles no_bubble (bubble_pixels plan.paper) x y some in
      (keeps.clear.zones_from_reserved k.0 no_bubble k.1).apart x y (bubble-zoned k.0 x y k.2) in_zones))
      (is-false _ (λ some. let k = any_of-some plan.texts no_line line_pixels x y some in
      (keeps.clear.text_from_reserved k.0 no_line k.1).apart x y k.2 in_zones))
    where
      in_zones : in_any 84 (λ m. box_zone_at plan.paper (reserved_place m)) x y ≡ true
      in_zones = in_any-one 84 n (λ m. box_zone_at plan.paper (reserved_place m)) x y few zone

      apart : (k : ℕ) → k < 84 → box_pixels plan.paper k x y ≡ true → ⊥
      apart k within h =
          let box = box-sides k x y h in
          let rows = place-rows (first_code_row plan.paper) k within in
          let sides = zone-sides first_reserved_row n x y few zone in
          omega (arith, ints, box.2, rows.0, sides.3, last-row_low plan.paper)
