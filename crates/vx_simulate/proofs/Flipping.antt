-- The flips of a simulated scan are few, wherever there may be only few.
use Rattle.std.proofs.Common.{◌≡◌, ◌≢◌, ◌⊎◌, inl, inr, ℕ, ◌+◌, ◌-◌, ◌≤◌, ◌<◌, Bool, true, false, not, ◌||◌, [], length, ℤ, pos, ◌+ℤ◌, ◌-ℤ◌, ◌≤ℤ◌, ◌<ℤ◌, refl, ap, sym, subst, ◌∙◌, arith}
use Rattle.std.specs.Prelude.{slice_index_or}
use Rattle.std.specs.List.{range_with_len}
use Rattle.std.proofs.lemmas.Int.{ints}
use Rattle.std.proofs.lemmas.Bool.{cases_lt, cases_eq, false≢true}
use Rattle.rand_pcg.specs.Lcg.{Lcg}
use Rattle.vx_base.proofs.Booleans.{and-left, and-right, or-left, or-right, or-cases}
use Rattle.vx_base.proofs.Integers.{natural-of}
use Rattle.vx_plane.specs.Plane.{Pixels, Page, page_of, union, rectangle, dark_at}
use Rattle.vx_plane.specs.Count.{count_in}
use Rattle.vx_plane.proofs.Counts.{count_in-le, count_in-union_le, count_in-same}
use Rattle.vx_plane.proofs.Pages.{in_any-some, in_any-one, rectangle-inside, rectangle-sides, dark_at-in_frame}
use Rattle.vx_grid.specs.declared.places.Point.{Point}
use Rattle.vx_grid.specs.Grid.{x_of, y_of}
use Rattle.vx_grid.specs.Regions.{frame_zone}
use Rattle.vx_grid.specs.Sizes as sizes
use Rattle.vx_grid.specs.Sizes.{zone_of}
use Rattle.vx_code.specs.Code.{place_of_box, reserved_place}
use Rattle.vx_mark_model.specs.Mark.{IsInFrame}
use Rattle.vx_layout.specs.declared.pages.PagePlan.{PagePlan}
use Rattle.vx_layout.specs.Pages.{IsOnGrid}
use Rattle.vx_layout.specs.Zones.{bubble_zone_of, box_zone_at, code_zones, reserved_zones}
use Rattle.vx_layout.specs.Printed.{KeepsClear}
use Rattle.vx_geom.specs.Slants.{Slant, IsSlant, paper_column, paper_row, scan_column, scan_row}
use Rattle.vx_geom.specs.Seen.{seen, laid_back}
use Rattle.vx_geom.specs.Laws.{IsNearlyMoved}
use Rattle.vx_geom.proofs.Ways.{paper_column-scan, paper_row-scan, scan_column-paper, scan_row-paper}
use Rattle.vx_geom.proofs.Pieces.{nearly-moved}
use Rattle.vx_geom.proofs.Shown.{conserves-counts}
use Rattle.vx_grid.proofs.Papers.{last-row_low}
use Rattle.vx_margin.specs.Flips.{differ, flips, flips_in, flips_on}
use Rattle.vx_margin.specs.Shown.{count_at, count_round}
use Rattle.vx_scan_model.specs.Ink.{bubble_at}
use Rattle.vx_simulate.specs.Lie.{frame_width, frame_height}
use Rattle.vx_simulate.specs.declared.flips.Flips.{Flips}
use Rattle.vx_simulate.specs.Flips.{draw_flips, bubble_places, box_places, paper_flips, scan_flips, drawn_flips, draw_at_bubbles, draw_at_boxes}
use Rattle.vx_simulate.proofs.Counting.{count-places, count-among}
use Rattle.vx_simulate.proofs.Drawn.{lists-few, lists-inside}
use Rattle.vx_simulate.proofs.Inking.{no_bubble}
use Rattle.vx_simulate.proofs.Tiles.{tiles, window-few, windows-few}

differ-back : (flip shown : Bool) → differ (differ flip shown) shown ≡ flip
differ-back true true = refl
differ-back true false = refl
differ-back false true = refl
differ-back false false = refl

not-false : (b : Bool) → not b ≡ true → b ≡ true → ⊥
not-false true h g = false≢true h
not-false false h g = false≢true g

module _ (plan : PagePlan) (keeps : KeepsClear plan) (s : Slant) (slant : IsSlant s) (paper : Pixels) (g : Lcg) where
  abbrev drawn : Flips
  drawn = (draw_flips plan g).0

  abbrev in_tiles : Pixels
  in_tiles = tiles plan.paper (draw_at_boxes (draw_at_bubbles plan g).1).1

  abbrev scan : Page
  scan = page_of frame_width (frame_height plan.paper) (λ u v. differ (drawn_flips s plan drawn u v) (seen s paper u v))

  -- every flip was drawn
  flip-drawn : (u v : ℤ) → flips s scan paper u v ≡ true → drawn_flips s plan drawn u v ≡ true
  unfolding flips
  flip-drawn u v h =
      let framed = rectangle-sides (pos 0) (pos 0) frame_width (frame_height plan.paper) u v (and-left _ _ h) in
      let dark : dark_at scan u v ≡ differ (drawn_flips s plan drawn u v) (seen s paper u v) =
      dark_at-in_frame frame_width (frame_height plan.paper) (λ a b. differ (drawn_flips s plan drawn a b) (seen s paper a b)) u v framed.0 (omega (arith, ints, framed.1)) framed.2 (omega (arith, ints, framed.3)) in
      sym (differ-back (drawn_flips s plan drawn u v) (seen s paper u v)) ∙ ap (λ d. differ d (seen s paper u v)) (sym dark) ∙ and-right _ _ h

  -- it was drawn on the paper, or in a tile of the scan that shows the frame zone and no zone of the page code
  flip-cases : {P : Type 0} (u v : ℤ) → flips s scan paper u v ≡ true → (seen s (paper_flips plan drawn) u v ≡ true → P)
      → (in_tiles u v ≡ true → seen s (frame_zone plan.paper) u v ≡ true → (seen s (code_zones plan.paper) u v ≡ true → ⊥) → P) → P
  unfolding drawn_flips scan_flips
  flip-cases u v h on_paper in_scan =
      or-cases _ _ (flip-drawn u v h) on_paper
      (λ there. in_scan (and-left _ _ there) (and-left _ _ (and-right _ _ there)) (not-false _ (and-right _ _ (and-right _ _ there))))

  -- what the scan shows at the image of a place is there on the paper
  laid : (set : Pixels) (x y : ℤ) → seen s set (scan_column s x y) (scan_row s x y) ≡ set x y
  laid set x y =
      ap (λ z. set z (paper_row s (scan_column s x y) (scan_row s x y))) (paper_column-scan s x y) ∙ ap (λ z. set x z) (paper_row-scan s x y)

  laid-cases : {P : Type 0} (x y : ℤ) → flips_on s scan paper x y ≡ true → (paper_flips plan drawn x y ≡ true → P)
      → (in_tiles (scan_column s x y) (scan_row s x y) ≡ true → frame_zone plan.paper x y ≡ true → (code_zones plan.paper x y ≡ true → ⊥) → P) → P
  laid-cases x y h on_paper in_scan =
      flip-cases (scan_column s x y) (scan_row s x y) h
      (λ there. on_paper (sym (laid (paper_flips plan drawn) x y) ∙ there))
      (λ tile zone no_code. in_scan tile (sym (laid (frame_zone plan.paper) x y) ∙ zone) (λ code. no_code (laid (code_zones plan.paper) x y ∙ code)))

  -- what was drawn at a bubble lies in its zone
  bubble-zoned : (n : ℕ) (x y : ℤ) → bubble_places plan drawn.at_bubbles n x y ≡ true → bubble_zone_of plan.paper (bubble_at plan n) x y ≡ true
  bubble-zoned n x y h =
      lists-inside 12 72 50 plan.bubbles g n (pos (x_of (bubble_at plan n).col) -ℤ pos 36) (pos (y_of plan.paper (bubble_at plan n).row) -ℤ pos 25) x y (omega arith) (omega arith) h

  box-zoned : (n : ℕ) (x y : ℤ) → box_places plan.paper drawn.at_boxes n x y ≡ true → box_zone_at plan.paper (place_of_box plan.paper n) x y ≡ true
  box-zoned n x y h =
      lists-inside 40 60 44 (range_with_len 0 84) (draw_at_bubbles plan g).1 n (pos (x_of (place_of_box plan.paper n).0) -ℤ pos 30) (pos (y_of plan.paper (place_of_box plan.paper n).1) -ℤ pos 22) x y (omega arith) (omega arith) (and-left _ _ h)

  -- what was drawn on the paper was drawn at a bubble or at a box
  paper-cases : {P : Type 0} (x y : ℤ) → paper_flips plan drawn x y ≡ true
      → ((n : ℕ) → n < length plan.bubbles → bubble_places plan drawn.at_bubbles n x y ≡ true → P)
      → ((n : ℕ) → n < 84 → box_places plan.paper drawn.at_boxes n x y ≡ true → P) → P
  unfolding paper_flips
  paper-cases x y h at_bubble at_box =
      or-cases _ _ h
      (λ there. let k = in_any-some (length plan.bubbles) (bubble_places plan drawn.at_bubbles) x y there in at_bubble k.0 k.1 k.2)
      (λ there. let k = in_any-some 84 (box_places plan.paper drawn.at_boxes) x y there in at_box k.0 k.1 k.2)

  in-code : (n : ℕ) (x y : ℤ) → n < 84 → box_zone_at plan.paper (place_of_box plan.paper n) x y ≡ true → code_zones plan.paper x y ≡ true
  unfolding code_zones
  in-code n x y few h = in_any-one 84 n (λ m. box_zone_at plan.paper (place_of_box plan.paper m)) x y few h

  in-reserved : (n : ℕ) (x y : ℤ) → n < 84 → box_zone_at plan.paper (reserved_place n) x y ≡ true → reserved_zones plan.paper x y ≡ true
  unfolding reserved_zones
  in-reserved n x y few h = in_any-one 84 n (λ m. box_zone_at plan.paper (reserved_place m)) x y few h

  -- a flip that the frame zone shows was drawn in a tile
  framed-flip : (u v : ℤ) → flips_in s scan paper (frame_zone plan.paper) u v ≡ true → in_tiles u v ≡ true
  framed-flip u v h =
      let x : ℤ = paper_column s u v in
      let y : ℤ = paper_row s u v in
      let zone : frame_zone plan.paper x y ≡ true = and-left _ _ h in
      flip-cases u v (and-right _ _ h)
      (λ there. paper-cases x y there
      (λ n few at. absurd ((keeps.clear.zones_from_frame n no_bubble few).apart x y (bubble-zoned n x y at) zone))
      (λ n few at. absurd (not-false _ (and-right _ _ at) zone)))
      (λ tile a b. tile)

  pub few-framed : (p : Point) → IsInFrame scan p → count_at p (flips_in s scan paper (frame_zone plan.paper)) ≤ 20
  few-framed p framed =
      let l = natural-of (p.u -ℤ pos 23) (omega (arith, ints, framed.left)) in
      let t = natural-of (p.v -ℤ pos 11) (omega (arith, ints, framed.top)) in
      let most : count_at p (flips_in s scan paper (frame_zone plan.paper)) ≤ count_in (p.u -ℤ pos 23) (p.v -ℤ pos 11) 46 22 in_tiles =
      count_in-le (p.u -ℤ pos 23) (p.v -ℤ pos 11) 46 22 (flips_in s scan paper (frame_zone plan.paper)) in_tiles (λ u v a b c d h. framed-flip u v h) in
      let there : count_in (p.u -ℤ pos 23) (p.v -ℤ pos 11) 46 22 in_tiles ≡ count_in (pos l.0) (pos t.0) 46 22 in_tiles =
      ap (λ z. count_in z (p.v -ℤ pos 11) 46 22 in_tiles) l.1 ∙ ap (λ z. count_in (pos l.0) z 46 22 in_tiles) t.1 in
      let few = window-few plan.paper (draw_at_boxes (draw_at_bubbles plan g).1).1 l.0 t.0 in
      omega (arith, most, there, few)

  -- the zones of two bubbles have no place in common
  zones-apart : (n k : ℕ) (x y : ℤ) → n < length plan.bubbles → k < length plan.bubbles → bubble_zone_of plan.paper (bubble_at plan n) x y ≡ true → bubble_zone_of plan.paper (bubble_at plan k) x y ≡ true → n ≢ k → ⊥
  zones-apart n k x y few within here there other =
      let one : IsOnGrid plan.paper (bubble_at plan n) = keeps.on_grid n no_bubble few in
      let two : IsOnGrid plan.paper (bubble_at plan k) = keeps.on_grid k no_bubble within in
      let cx : ℕ = x_of (bubble_at plan k).col in
      let cy : ℕ = y_of plan.paper (bubble_at plan k).row in
      let a = rectangle-sides (pos (x_of (bubble_at plan n).col) -ℤ pos 36) (pos (y_of plan.paper (bubble_at plan n).row) -ℤ pos 25) 72 50 x y here in
      let b = rectangle-sides (pos cx -ℤ pos 36) (pos cy -ℤ pos 25) 72 50 x y there in
      let columns : one.column ≡ two.column = omega (arith, ints, a.0, a.1, b.0, b.1, one.col, two.col) in
      let rows : (bubble_at plan n).row ≡ (bubble_at plan k).row = omega (arith, ints, a.2, a.3, b.2, b.3) in
      let column : (bubble_at plan n).col ≡ (bubble_at plan k).col = omega (arith, columns, one.col, two.col) in
      (keeps.apart.each n k no_bubble few within other).apart (pos cx) (pos cy)
      (rectangle-inside (pos (x_of (bubble_at plan n).col) -ℤ pos 36) (pos (y_of plan.paper (bubble_at plan n).row) -ℤ pos 25) 72 50 (pos cx) (pos cy)
      (omega (arith, ints, column)) (omega (arith, ints, column)) (omega (arith, ints, rows)) (omega (arith, ints, rows)))
      (rectangle-inside (pos cx -ℤ pos 20) (pos cy -ℤ pos 13) 40 26 (pos cx) (pos cy) (omega (arith, ints)) (omega (arith, ints)) (omega (arith, ints)) (omega (arith, ints)))

  -- in the zone of a bubble are only its own
  pub few-at_bubble : (n : ℕ) → n < length plan.bubbles → count_round plan.paper (zone_of sizes.bubble) (bubble_at plan n).col (bubble_at plan n).row (flips_on s scan paper) ≤ 12
  few-at_bubble n few =
      let left : ℤ = pos (x_of (bubble_at plan n).col) -ℤ pos 36 in
      let top : ℤ = pos (y_of plan.paper (bubble_at plan n).row) -ℤ pos 25 in
      let most : count_in left top 72 50 (flips_on s scan paper) ≤ count_in left top 72 50 (bubble_places plan drawn.at_bubbles n) =
      count_in-le left top 72 50 (flips_on s scan paper) (bubble_places plan drawn.at_bubbles n)
      (λ x y a b c d h. own x y (rectangle-inside left top 72 50 x y a b c d) h) in
      let many : count_in left top 72 50 (bubble_places plan drawn.at_bubbles n) ≤ length (slice_index_or drawn.at_bubbles n []) = count-places left top 72 50 left top (slice_index_or drawn.at_bubbles n []) in
      let drawn_few = lists-few 12 72 50 plan.bubbles g n in
      omega (arith, most, many, drawn_few)
    where
      mine : (k : ℕ) (x y : ℤ) → k < length plan.bubbles → bubble_zone_of plan.paper (bubble_at plan n) x y ≡ true → bubble_places plan drawn.at_bubbles k x y ≡ true → (n ≡ k) ⊎ (n ≢ k) → bubble_places plan drawn.at_bubbles n x y ≡ true
      mine k x y within zone at (inl same) = subst (λ (m : ℕ). bubble_places plan drawn.at_bubbles m x y ≡ true) (sym same) at
      mine k x y within zone at (inr other) = absurd (zones-apart n k x y few within zone (bubble-zoned k x y at) other)

      own : (x y : ℤ) → bubble_zone_of plan.paper (bubble_at plan n) x y ≡ true → flips_on s scan paper x y ≡ true → bubble_places plan drawn.at_bubbles n x y ≡ true
      own x y zone h =
          laid-cases x y h
          (λ there. paper-cases x y there
          (λ k within at. mine k x y within zone at (cases_eq n k))
          (λ k within at. absurd ((keeps.clear.zones_from_code n no_bubble few).apart x y zone (in-code k x y within (box-zoned k x y at)))))
          (λ tile frame no_code. absurd ((keeps.clear.zones_from_frame n no_bubble few).apart x y zone frame))

  -- in the zone of a box of the page code are its own and those of the boxes beside it
  pub few-at_box : (n : ℕ) → n < 84 → count_round plan.paper (zone_of sizes.code_box) (place_of_box plan.paper n).0 (place_of_box plan.paper n).1 (flips_on s scan paper) ≤ 120
  few-at_box n few =
      let left : ℤ = pos (x_of (place_of_box plan.paper n).0) -ℤ pos 30 in
      let top : ℤ = pos (y_of plan.paper (place_of_box plan.paper n).1) -ℤ pos 22 in
      let three : Pixels = union (at_box (n - 1)) (union (at_box n) (at_box (n + 1))) in
      let most : count_in left top 60 44 (flips_on s scan paper) ≤ count_in left top 60 44 three =
      count_in-le left top 60 44 (flips_on s scan paper) three (λ x y a b c d h. near x y (rectangle-inside left top 60 44 x y a b c d) h) in
      let both : count_in left top 60 44 three ≤ count_in left top 60 44 (at_box (n - 1)) + count_in left top 60 44 (union (at_box n) (at_box (n + 1))) = count_in-union_le left top 60 44 (at_box (n - 1)) (union (at_box n) (at_box (n + 1))) in
      let rest : count_in left top 60 44 (union (at_box n) (at_box (n + 1))) ≤ count_in left top 60 44 (at_box n) + count_in left top 60 44 (at_box (n + 1)) = count_in-union_le left top 60 44 (at_box n) (at_box (n + 1)) in
      omega (arith, most, both, rest, many left top (n - 1), many left top n, many left top (n + 1))
    where
      at_box : ℕ → Pixels
      at_box = box_places plan.paper drawn.at_boxes

      many : (left top : ℤ) (k : ℕ) → count_in left top 60 44 (box_places plan.paper drawn.at_boxes k) ≤ 40
      many left top k =
          let l : ℤ = pos (x_of (place_of_box plan.paper k).0) -ℤ pos 30 in
          let t : ℤ = pos (y_of plan.paper (place_of_box plan.paper k).1) -ℤ pos 22 in
          let listed : count_in left top 60 44 (box_places plan.paper drawn.at_boxes k) ≤ length (slice_index_or drawn.at_boxes k []) =
          count-among left top 60 44 l t (slice_index_or drawn.at_boxes k []) (box_places plan.paper drawn.at_boxes k) (λ x y inside h. and-left _ _ h) in
          let drawn_few = lists-few 40 60 44 (range_with_len 0 84) (draw_at_bubbles plan g).1 k in
          omega (arith, listed, drawn_few)

      beside : (k : ℕ) (x y : ℤ) → k < 84 → box_zone_at plan.paper (place_of_box plan.paper n) x y ≡ true → box_places plan.paper drawn.at_boxes k x y ≡ true
          → (box_places plan.paper drawn.at_boxes (n - 1) x y || (box_places plan.paper drawn.at_boxes n x y || box_places plan.paper drawn.at_boxes (n + 1) x y)) ≡ true
      beside k x y within zone at =
          let a = rectangle-sides (pos (x_of (place_of_box plan.paper n).0) -ℤ pos 30) (pos (y_of plan.paper (place_of_box plan.paper n).1) -ℤ pos 22) 60 44 x y zone in
          let b = rectangle-sides (pos (x_of (place_of_box plan.paper k).0) -ℤ pos 30) (pos (y_of plan.paper (place_of_box plan.paper k).1) -ℤ pos 22) 60 44 x y (box-zoned k x y at) in
          let low : k ≤ n + 1 = omega (arith, ints, a.0, a.1, a.2, a.3, b.0, b.1, b.2, b.3) in
          let high : n ≤ k + 1 = omega (arith, ints, a.0, a.1, a.2, a.3, b.0, b.1, b.2, b.3) in
          let There : ℕ → Type 0 = λ m. box_places plan.paper drawn.at_boxes m x y ≡ true in
          elim (cases_lt k n) [
            | inl less ↦ (let is : k ≡ n - 1 = omega (arith, less, high) in or-left _ _ (subst There is at))
            | inr more ↦ elim (cases_lt n k) [
              | inl past ↦ (let is : k ≡ n + 1 = omega (arith, past, low) in or-right _ _ (or-right _ _ (subst There is at)))
              | inr same ↦ (let is : k ≡ n = omega (arith, more, same) in or-right _ _ (or-left _ _ (subst There is at)))
            ]
          ]

      near : (x y : ℤ) → box_zone_at plan.paper (place_of_box plan.paper n) x y ≡ true → flips_on s scan paper x y ≡ true
          → (box_places plan.paper drawn.at_boxes (n - 1) x y || (box_places plan.paper drawn.at_boxes n x y || box_places plan.paper drawn.at_boxes (n + 1) x y)) ≡ true
      near x y zone h =
          laid-cases x y h
          (λ there. paper-cases x y there
          (λ k within at. absurd ((keeps.clear.zones_from_code k no_bubble within).apart x y (bubble-zoned k x y at) (in-code n x y few zone)))
          (λ k within at. beside k x y within zone at))
          (λ tile frame no_code. absurd (no_code (in-code n x y few zone)))

  -- in a reserved zone are only those of tiles, and it lies in six windows of the scan
  pub few-reserved : (n : ℕ) → n < 84 → pos 1 ≤ℤ scan_column s (pos (x_of (reserved_place n).0) -ℤ pos 30) (pos (y_of plan.paper (reserved_place n).1) -ℤ pos 22) → pos 1 ≤ℤ scan_row s (pos (x_of (reserved_place n).0) -ℤ pos 30) (pos (y_of plan.paper (reserved_place n).1) -ℤ pos 22)
      → count_round plan.paper (zone_of sizes.code_box) (reserved_place n).0 (reserved_place n).1 (flips_on s scan paper) ≤ 120
  few-reserved n few right_of below =
      let left : ℤ = pos (x_of (reserved_place n).0) -ℤ pos 30 in
      let top : ℤ = pos (y_of plan.paper (reserved_place n).1) -ℤ pos 22 in
      let moved : IsNearlyMoved s left top 60 44 = nearly-moved s slant left top 60 44 (omega arith) (omega arith) in
      let corner : rectangle left top 60 44 left top ≡ true = rectangle-inside left top 60 44 left top (omega (arith, ints)) (omega (arith, ints)) (omega (arith, ints)) (omega (arith, ints)) in
      let column = moved.columns left top corner in
      let row = moved.rows left top corner in
      let l = natural-of (left +ℤ moved.right) (elim column [ inl is ↦ omega (arith, ints, is, right_of) | inr is ↦ omega (arith, ints, is, right_of) ]) in
      let t = natural-of (top +ℤ moved.down) (elim row [ inl is ↦ omega (arith, ints, is, below) | inr is ↦ omega (arith, ints, is, below) ]) in
      let set : Pixels = laid_back s in_tiles in
      let most : count_in left top 60 44 (flips_on s scan paper) ≤ count_in left top 60 44 set =
      count_in-le left top 60 44 (flips_on s scan paper) set (λ x y a b c d h. tiled x y (rectangle-inside left top 60 44 x y a b c d) h) in
      let goes : count_in left top 60 44 set ≤ count_in (pos l.0) (pos t.0) 92 66 (seen s set) =
      (conserves-counts s).at_least set (pos l.0) (pos t.0) 92 66 left top 60 44
      (λ x y inside is.
      let at = rectangle-sides left top 60 44 x y inside in
      let across = moved.columns x y inside in
      let down = moved.rows x y inside in
      let column_low : pos l.0 ≤ℤ scan_column s x y = elim across [ inl e ↦ omega (arith, ints, e, at.0, l.1) | inr e ↦ omega (arith, ints, e, at.0, l.1) ] in
      let column_high : scan_column s x y <ℤ (pos l.0 +ℤ pos 92) = elim across [ inl e ↦ omega (arith, ints, e, at.1, l.1) | inr e ↦ omega (arith, ints, e, at.1, l.1) ] in
      let row_low : pos t.0 ≤ℤ scan_row s x y = elim down [ inl e ↦ omega (arith, ints, e, at.2, t.1) | inr e ↦ omega (arith, ints, e, at.2, t.1) ] in
      let row_high : scan_row s x y <ℤ (pos t.0 +ℤ pos 66) = elim down [ inl e ↦ omega (arith, ints, e, at.3, t.1) | inr e ↦ omega (arith, ints, e, at.3, t.1) ] in
      rectangle-inside (pos l.0) (pos t.0) 92 66 (scan_column s x y) (scan_row s x y) column_low column_high row_low row_high) in
      let same : count_in (pos l.0) (pos t.0) 92 66 (seen s set) ≡ count_in (pos l.0) (pos t.0) 92 66 in_tiles =
      count_in-same (pos l.0) (pos t.0) 92 66 (seen s set) in_tiles (λ u v a b c d.
      ap (λ z. in_tiles z (scan_row s (paper_column s u v) (paper_row s u v))) (scan_column-paper s u v) ∙ ap (λ z. in_tiles u z) (scan_row-paper s u v)) in
      let tile_few = windows-few plan.paper (draw_at_boxes (draw_at_bubbles plan g).1).1 l.0 t.0 in
      omega (arith, most, goes, same, tile_few)
    where
      far : (k : ℕ) (x y : ℤ) → k < 84 → box_zone_at plan.paper (reserved_place n) x y ≡ true → box_places plan.paper drawn.at_boxes k x y ≡ true → ⊥
      far k x y within zone at =
          let a = rectangle-sides (pos (x_of (reserved_place n).0) -ℤ pos 30) (pos (y_of plan.paper (reserved_place n).1) -ℤ pos 22) 60 44 x y zone in
          let b = rectangle-sides (pos (x_of (place_of_box plan.paper k).0) -ℤ pos 30) (pos (y_of plan.paper (place_of_box plan.paper k).1) -ℤ pos 22) 60 44 x y (box-zoned k x y at) in
          let rows = last-row_low plan.paper in
          omega (arith, ints, a.2, a.3, b.2, b.3, rows, few, within)

      tiled : (x y : ℤ) → box_zone_at plan.paper (reserved_place n) x y ≡ true → flips_on s scan paper x y ≡ true → in_tiles (scan_column s x y) (scan_row s x y) ≡ true
      tiled x y zone h =
          laid-cases x y h
          (λ there. paper-cases x y there
          (λ k within at. absurd ((keeps.clear.zones_from_reserved k no_bubble within).apart x y (bubble-zoned k x y at) (in-reserved n x y few zone)))
          (λ k within at. absurd (far k x y within zone at)))
          (λ tile frame no_code. tile)
