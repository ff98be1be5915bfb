-- What a turned scan has where the page code of a page as it lies would be.
use Rattle.std.proofs.Common.{◌≡◌, ℕ, ◌+◌, ◌-◌, ◌≤◌, ℤ, pos, ◌+ℤ◌, ◌-ℤ◌, ap, ◌∙◌, arith}
use Rattle.std.proofs.lemmas.Int.{ints}
use Rattle.vx_plane.specs.Plane.{Pixels, Page}
use Rattle.vx_plane.specs.Count.{count_in}
use Rattle.vx_plane.proofs.Counts.{count_in-same}
use Rattle.vx_grid.specs.declared.paper.Paper.{Paper}
use Rattle.vx_grid.specs.declared.sizes.HalfSides.{HalfSides}
use Rattle.vx_grid.specs.Paper.{last_row}
use Rattle.vx_grid.specs.Grid.{x_of, y_of}
use Rattle.vx_geom.specs.Slants.{Slant, scan_row, scan_column, right_by}
use Rattle.vx_geom.proofs.Turned.{down-turned, right-turned}
use Rattle.vx_grid.proofs.Papers.{height-is}
use Rattle.vx_margin.specs.Flips.{flips, flips_on}
use Rattle.vx_margin.specs.Shown.{count_round}
use Rattle.vx_margin.specs.Turned.{IsTurned, last_x, last_y, turned_set, slant_turned}
use Rattle.vx_margin.proofs.Turned.{count_in-turned_round, flips-turned}

-- a count round a grid point, from the other end of the paper
pub round-turned : (paper : Paper) (half : HalfSides) (c r : ℕ) (set : Pixels) → c ≤ 33 → r ≤ last_row paper
    → count_round paper half c r (turned_set paper set) ≡ count_round paper half (33 - c) (last_row paper - r) set
round-turned paper half c r set few low =
    let w : ℕ = half.across + half.across in
    let h : ℕ = half.down + half.down in
    let l : ℤ = pos (x_of c) -ℤ pos half.across in
    let t : ℤ = pos (y_of paper r) -ℤ pos half.down in
    let left : ((last_x -ℤ l) -ℤ pos w) +ℤ pos 1 ≡ pos (x_of (33 - c)) -ℤ pos half.across = omega (arith, ints, few) in
    let top : ((last_y paper -ℤ t) -ℤ pos h) +ℤ pos 1 ≡ pos (y_of paper (last_row paper - r)) -ℤ pos half.down = omega (arith, ints, low, height-is paper) in
    count_in-turned_round last_x (last_y paper) l t w h set
    ∙ (ap (λ z. count_in z (((last_y paper -ℤ t) -ℤ pos h) +ℤ pos 1) w h set) left ∙ ap (λ z. count_in (pos (x_of (33 - c)) -ℤ pos half.across) z w h set) top)

module _ (s : Slant) (scan other : Page) (paper : Paper) (turned : IsTurned scan other) where
  abbrev t : Slant
  t = slant_turned paper scan s

  row-over : (x y : ℤ) → (pos scan.height -ℤ pos 1) -ℤ scan_row t x y ≡ scan_row s (last_x -ℤ x) (last_y paper -ℤ y)
  row-over x y = let down = down-turned last_x (last_y paper) (pos scan.width -ℤ pos 1) (pos scan.height -ℤ pos 1) s x in omega (arith, ints, down)

  column-over : (x y : ℤ) → (pos scan.width -ℤ pos 1) -ℤ scan_column t x y ≡ scan_column s (last_x -ℤ x) (last_y paper -ℤ y)
  column-over x y =
      let right = right-turned last_x (last_y paper) (pos scan.width -ℤ pos 1) (pos scan.height -ℤ pos 1) s (scan_row t x y) in
      let same : right_by s ((pos scan.height -ℤ pos 1) -ℤ scan_row t x y) ≡ right_by s (scan_row s (last_x -ℤ x) (last_y paper -ℤ y)) = ap (right_by s) (row-over x y) in
      omega (arith, ints, right, same)

  -- the flips, laid back on the turned paper
  laid-turned : (set : Pixels) (x y : ℤ) → flips_on t scan (turned_set paper set) x y ≡ turned_set paper (flips_on s other set) x y
  laid-turned set x y =
      flips-turned s scan other paper turned set (scan_column t x y) (scan_row t x y)
      ∙ (ap (λ z. flips s other set z ((pos scan.height -ℤ pos 1) -ℤ scan_row t x y)) (column-over x y)
      ∙ ap (λ z. flips s other set (scan_column s (last_x -ℤ x) (last_y paper -ℤ y)) z) (row-over x y))

  -- so there are as many round a grid point as at the other end of the page
  pub flips-round : (half : HalfSides) (c r : ℕ) (set : Pixels) → c ≤ 33 → r ≤ last_row paper
      → count_round paper half c r (flips_on t scan (turned_set paper set)) ≡ count_round paper half (33 - c) (last_row paper - r) (flips_on s other set)
  flips-round half c r set few low =
      count_in-same (pos (x_of c) -ℤ pos half.across) (pos (y_of paper r) -ℤ pos half.down) (half.across + half.across) (half.down + half.down) _ _
      (λ x y a b d e. laid-turned set x y)
      ∙ round-turned paper half c r (flips_on s other set) few low
