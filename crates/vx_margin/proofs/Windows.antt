-- Windows at grid places hold what was printed, and lie in its zone.
use Rattle.std.proofs.Common.{◌≡◌, ◌⊎◌, inl, inr, ℕ, ◌+◌, ◌≤◌, Bool, true, false, ◌||◌, ℤ, pos, ◌+ℤ◌, ◌-ℤ◌, ◌≤ℤ◌, ◌<ℤ◌, refl, ap, sym, ◌∙◌, arith}
use Rattle.std.proofs.lemmas.Int.{ints}
use Rattle.vx_plane.specs.Plane.{Pixels, Page, rectangle, union, dark_at}
use Rattle.vx_plane.specs.Count.{count_in}
use Rattle.vx_plane.proofs.Counts.{count_in-same, count_in-le, count_in-union_le}
use Rattle.vx_plane.proofs.Pages.{rectangle-inside, rectangle-sides}
use Rattle.vx_grid.specs.declared.paper.Paper.{Paper}
use Rattle.vx_grid.specs.declared.places.Point.{Point}
use Rattle.vx_grid.specs.declared.sizes.HalfSides.{HalfSides}
use Rattle.vx_grid.specs.Places.{IsWithin}
use Rattle.vx_grid.specs.Grid.{x_of, y_of}
use Rattle.vx_grid.specs.Sizes.{window_of, zone_of, round}
use Rattle.vx_geom.specs.Slants.{Slant, IsSlant, paper_column, paper_row, scan_column, scan_row}
use Rattle.vx_geom.specs.Seen.{seen}
use Rattle.vx_geom.proofs.Ways.{is-rigid, scan_column-paper, scan_row-paper}
use Rattle.vx_geom.proofs.Shown.{seen_le, seen_ge}
use Rattle.vx_margin.specs.Marks.{image_of, LiesNear}
use Rattle.vx_margin.specs.Flips.{flips, flips_on, frame_of}
use Rattle.vx_margin.specs.Shown.{ShowsZone, count_round, dark_round}
use Rattle.vx_margin.specs.Laws.{round_place, IsPutNear, LiesBetween, WindowsLieBetween}
use Rattle.vx_margin.proofs.Parts.{changed-le}
use Rattle.vx_margin.proofs.Deficits.{as_or_flip, swapped}
use Rattle.vx_margin.proofs.Found.{wider, sum-within, alike}

inside-round : (half : HalfSides) (cx cy : ℕ) (x y : ℤ) → IsWithin (1 + (half.across + 14)) (x -ℤ pos cx) → IsWithin (1 + (half.down + 10)) (y -ℤ pos cy) → round (zone_of half) cx cy x y ≡ true
inside-round half cx cy x y a b =
    rectangle-inside (pos cx -ℤ pos ((half.across + 8) + 8)) (pos cy -ℤ pos ((half.down + 6) + 6)) (((half.across + 8) + 8) + ((half.across + 8) + 8)) (((half.down + 6) + 6) + ((half.down + 6) + 6)) x y
    (omega (arith, ints, a.low)) (omega (arith, ints, a.high)) (omega (arith, ints, b.low)) (omega (arith, ints, b.high))

shown-or : (seen dark flip : Bool) → (seen ≡ dark) ⊎ (flip ≡ true) → dark ≡ true → (seen || flip) ≡ true
shown-or true dark flip same h = refl
shown-or false true flip (inl e) h = cc
shown-or false true flip (inr f) h = f
shown-or false false flip same h = cc

in-window : (half : HalfSides) (p q : Point) (u v : ℤ) → IsPutNear p q → IsWithin (1 + half.across) (u -ℤ q.u) → IsWithin (1 + half.down) (v -ℤ q.v)
    → rectangle (p.u -ℤ pos (half.across + 8)) (p.v -ℤ pos (half.down + 6)) ((half.across + 8) + (half.across + 8)) ((half.down + 6) + (half.down + 6)) u v ≡ true
in-window half p q u v near a b =
    rectangle-inside _ _ _ _ u v
    (omega (arith, ints, near.across.high, a.low)) (omega (arith, ints, near.across.low, a.high)) (omega (arith, ints, near.down.high, b.low)) (omega (arith, ints, near.down.low, b.high))

module _ (s : Slant) (slant : IsSlant s) (paper : Paper) (half : HalfSides) (narrow : half.across ≤ 20) (low : half.down ≤ 13) (c r : ℕ)
    (p : Point) (near : IsPutNear p (image_of s paper c r)) where
  abbrev q : Point
  q = image_of s paper c r

  -- each place of the window shows a place of the zone
  shows-zone : (u v : ℤ) → round_place (window_of half) p u v ≡ true → round (zone_of half) (x_of c) (y_of paper r) (paper_column s u v) (paper_row s u v) ≡ true
  shows-zone u v inside =
      let sides = rectangle-sides (p.u -ℤ pos (half.across + 8)) (p.v -ℤ pos (half.down + 6)) ((half.across + 8) + (half.across + 8)) ((half.down + 6) + (half.down + 6)) u v inside in
      let across : IsWithin (half.across + 14) (u -ℤ q.u) = record { low = omega (arith, ints, sides.0, near.across.low); high = omega (arith, ints, sides.1, near.across.high) } in
      let down : IsWithin (half.down + 10) (v -ℤ q.v) = record { low = omega (arith, ints, sides.2, near.down.low); high = omega (arith, ints, sides.3, near.down.high) } in
      let at = alike s slant paper c r u v (wider _ 63 _ (omega (arith, narrow)) across) (wider _ 64 _ (omega (arith, low)) down) in
      inside-round half (x_of c) (y_of paper r) (paper_column s u v) (paper_row s u v)
      (sum-within 1 (half.across + 14) _ _ at.0 across) (sum-within 1 (half.down + 10) _ _ at.1 down)

  -- each place of the box is shown in the window
  into-window : (x y : ℤ) → round half (x_of c) (y_of paper r) x y ≡ true → round_place (window_of half) p (scan_column s x y) (scan_row s x y) ≡ true
  into-window x y inside =
      let sides = rectangle-sides (pos (x_of c) -ℤ pos half.across) (pos (y_of paper r) -ℤ pos half.down) (half.across + half.across) (half.down + half.down) x y inside in
      let dx : IsWithin half.across (x -ℤ pos (x_of c)) = record { low = omega (arith, ints, sides.0); high = omega (arith, ints, sides.1) } in
      let dy : IsWithin half.down (y -ℤ pos (y_of paper r)) = record { low = omega (arith, ints, sides.2); high = omega (arith, ints, sides.3) } in
      let far = (is-rigid s slant).scan x y (pos (x_of c)) (pos (y_of paper r)) (wider _ 64 _ (omega (arith, narrow)) dx) (wider _ 63 _ (omega (arith, low)) dy) in
      let du : IsWithin (1 + half.across) (scan_column s x y -ℤ q.u) = sum-within 1 half.across _ _ far.across dx in
      let dv : IsWithin (1 + half.down) (scan_row s x y -ℤ q.v) = sum-within 1 half.down _ _ far.down dy in
      in-window half p q (scan_column s x y) (scan_row s x y) near du dv

  lies-between : LiesBetween s paper half c r p
  lies-between = record { holds_box = into-window; in_zone = shows-zone }

-- a window lies between its box and its zone near the image of a grid point
pub windows-between : WindowsLieBetween
windows-between s paper half c r p slant narrow low near = lies-between s slant paper half narrow low c r p near

module _ (s : Slant) (slant : IsSlant s) (scan : Page) (paper : Paper) (set : Pixels) (half : HalfSides) (narrow : half.across ≤ 20) (low : half.down ≤ 13) (c r : ℕ)
    (p : Point) (near : LiesNear 6 4 p (image_of s paper c r)) where
  abbrev left : ℤ
  left = p.u -ℤ pos (half.across + 8)

  abbrev top : ℤ
  top = p.v -ℤ pos (half.down + 6)

  abbrev width : ℕ
  width = (half.across + 8) + (half.across + 8)

  abbrev height : ℕ
  height = (half.down + 6) + (half.down + 6)

  between : LiesBetween s paper half c r p
  between = windows-between s paper half c r p slant narrow low near

  -- a window counts at most what the zone has, and its flips, where no pixel out of the frame is dark
  pub window-whole : (most : ℕ) → count_round paper (zone_of half) c r (flips_on s scan set) ≤ most → ((u v : ℤ) → dark_at scan u v ≡ true → frame_of scan u v ≡ true)
      → dark_round scan (window_of half) p ≤ count_round paper (zone_of half) c r set + most
  window-whole most few framed =
      let all : count_in left top width height (dark_at scan) ≤ count_in left top width height (union (seen s set) (flips s scan set)) =
      count_in-le left top width height (dark_at scan) (union (seen s set) (flips s scan set))
      (λ u v a b d e dark. shown-or (seen s set u v) (dark_at scan u v) (flips s scan set u v) (as_or_flip s scan set u v (framed u v dark)) dark) in
      let parts : count_in left top width height (union (seen s set) (flips s scan set)) ≤ count_in left top width height (seen s set) + count_in left top width height (flips s scan set) =
      count_in-union_le left top width height (seen s set) (flips s scan set) in
      let shown : count_in left top width height (seen s set) ≤ count_round paper (zone_of half) c r set =
      seen_le s set left top width height _ _ _ _
      (λ u v inside h. between.in_zone u v inside) in
      let laid : count_in left top width height (flips s scan set) ≡ count_in left top width height (seen s (flips_on s scan set)) =
      count_in-same left top width height (flips s scan set) (seen s (flips_on s scan set))
      (λ u v a b d e. sym (ap (λ z. flips s scan set z v) (scan_column-paper s u v)) ∙ sym (ap (λ z. flips s scan set (scan_column s (paper_column s u v) (paper_row s u v)) z) (scan_row-paper s u v))) in
      let wrong : count_in left top width height (seen s (flips_on s scan set)) ≤ count_round paper (zone_of half) c r (flips_on s scan set) =
      seen_le s (flips_on s scan set) left top width height _ _ _ _
      (λ u v inside h. between.in_zone u v inside) in
      omega (arith, all, parts, shown, laid, wrong, few)

  module _ (most : ℕ) (shows : ShowsZone s scan paper set (zone_of half) c r most) where
    in-frame : (u v : ℤ) → left ≤ℤ u → u <ℤ (left +ℤ pos width) → top ≤ℤ v → v <ℤ (top +ℤ pos height) → frame_of scan u v ≡ true
    in-frame u v a b d e =
        let there = shows.in_frame (paper_column s u v) (paper_row s u v) (between.in_zone u v (rectangle-inside left top width height u v a b d e)) in
        sym (ap (λ z. frame_of scan z v) (scan_column-paper s u v)) ∙ sym (ap (λ z. frame_of scan (scan_column s (paper_column s u v) (paper_row s u v)) z) (scan_row-paper s u v)) ∙ there

    abbrev wrong : Pixels
    wrong = flips s scan set

    -- the flips of the window are at most those of the zone
    few-wrong : count_in left top width height wrong ≤ most
    few-wrong =
        let shown : count_in left top width height wrong ≡ count_in left top width height (seen s (flips_on s scan set)) =
        count_in-same left top width height wrong (seen s (flips_on s scan set))
        (λ u v a b d e. sym (ap (λ z. wrong z v) (scan_column-paper s u v)) ∙ sym (ap (λ z. wrong (scan_column s (paper_column s u v) (paper_row s u v)) z) (scan_row-paper s u v))) in
        let into : count_in left top width height (seen s (flips_on s scan set)) ≤ count_round paper (zone_of half) c r (flips_on s scan set) =
        seen_le s (flips_on s scan set) left top width height _ _ _ _
        (λ u v inside h. between.in_zone u v inside) in
        omega (arith, shown, into, shows.few)

    -- a window counts at most what the zone has, and its flips
    pub window-at_most : dark_round scan (window_of half) p ≤ count_round paper (zone_of half) c r set + most
    window-at_most =
        let changed : count_in left top width height (dark_at scan) ≤ count_in left top width height (seen s set) + count_in left top width height wrong =
        changed-le left top width height (dark_at scan) (seen s set) wrong (λ u v a b d e. swapped _ _ _ (as_or_flip s scan set u v (in-frame u v a b d e))) in
        let into : count_in left top width height (seen s set) ≤ count_round paper (zone_of half) c r set =
        seen_le s set left top width height _ _ _ _
        (λ u v inside h. between.in_zone u v inside) in
        omega (arith, changed, into, few-wrong)

    -- a window counts at least what the box has, less the flips of the zone
    pub window-at_least : count_round paper half c r set ≤ dark_round scan (window_of half) p + most
    window-at_least =
        let shown : count_round paper half c r set ≤ count_in left top width height (seen s set) =
        seen_ge s set left top width height _ _ _ _ (λ x y inside h. between.holds_box x y inside) in
        let changed : count_in left top width height (seen s set) ≤ count_in left top width height (dark_at scan) + count_in left top width height wrong =
        changed-le left top width height (seen s set) (dark_at scan) wrong (λ u v a b d e. as_or_flip s scan set u v (in-frame u v a b d e)) in
        omega (arith, shown, changed, few-wrong)
