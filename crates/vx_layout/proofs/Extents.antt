-- In which rectangles sets of pixels lie, and which of them are apart.
use Rattle.std.proofs.Common.{◌≡◌, ℕ, ◌+◌, ◌-◌, ◌*◌, ◌≤◌, ◌<◌, ◌⊎◌, inl, inr, length, chars, get_or, Bool, true, false, cond, not, ℤ, pos, ◌-ℤ◌, ◌≤ℤ◌, ◌<ℤ◌, ap, arith}
use Rattle.std.proofs.lemmas.Int.{ints}
use Rattle.vx_plane.specs.Plane.{Pixels, nowhere, rectangle, in_any}
use Rattle.vx_plane.proofs.Pages.{in_any-some, in_any-one, rectangle-sides, rectangle-inside}
use Rattle.vx_grid.specs.declared.paper.Paper.{Paper}
use Rattle.vx_grid.specs.declared.sizes.HalfSides.{HalfSides}
use Rattle.vx_grid.specs.Paper.{last_row, first_y}
use Rattle.vx_grid.specs.Grid.{x_of, y_of, first_code_row}
use Rattle.vx_grid.specs.Sizes as sizes
use Rattle.vx_grid.specs.Sizes.{zone_of, round}
use Rattle.vx_grid.specs.Regions.{inner_region, frame_zone}
use Rattle.vx_grid.proofs.Papers.{last-row_high, first-y_low}
use Rattle.vx_code.specs.Code.{place_from, place_of_box, reserved_place}
use Rattle.vx_font.specs.Font.{dot_of}
use Rattle.vx_layout.specs.declared.bubbles.Bubble.{Bubble}
use Rattle.vx_layout.specs.declared.lines.TextLine.{TextLine}
use Rattle.vx_layout.specs.Lines.{size_of}
use Rattle.vx_layout.specs.Pages.{IsOnGrid}
use Rattle.vx_layout.specs.Print.{dot_pixels, column_pixels, glyph_pixels, character_pixels, line_pixels}
use Rattle.vx_layout.specs.Zones.{bubble_zone_of, bubble_box_of, box_zone_at, code_zones, reserved_zones, cell_pixels, line_cells, Apart, DotsLieInCells}

-- the places of a set lie in a rectangle: from_x ≤ u < to_x and from_y ≤ v < to_y
pub record Lies (set : Pixels) (from_x to_x from_y to_y : ℕ) : Type 0 where
  pub left : (u v : ℤ) → set u v ≡ true → pos from_x ≤ℤ u
  pub right : (u v : ℤ) → set u v ≡ true → u <ℤ pos to_x
  pub above : (u v : ℤ) → set u v ≡ true → pos from_y ≤ℤ v
  pub below : (u v : ℤ) → set u v ≡ true → v <ℤ pos to_y

-- a rectangle, seen in a wider one
lies-rectangle : (x y width height left right above below : ℕ) → left ≤ x → x + width ≤ right → above ≤ y → y + height ≤ below → Lies (rectangle (pos x) (pos y) width height) left right above below
lies-rectangle x y width height left right above below a b c d = record {
  left = λ u v h. omega (arith, ints, (rectangle-sides (pos x) (pos y) width height u v h).0);
  right = λ u v h. omega (arith, ints, (rectangle-sides (pos x) (pos y) width height u v h).1);
  above = λ u v h. omega (arith, ints, (rectangle-sides (pos x) (pos y) width height u v h).2);
  below = λ u v h. omega (arith, ints, (rectangle-sides (pos x) (pos y) width height u v h).3);
}

-- a set or nothing
lies-if : (b : Bool) (set : Pixels) (left right above below : ℕ) → Lies set left right above below → Lies (cond b set nowhere) left right above below
lies-if true set left right above below lies = lies
lies-if false set left right above below lies = record {
  left = λ u v h. absurd (cc);
  right = λ u v h. absurd (cc);
  above = λ u v h. absurd (cc);
  below = λ u v h. absurd (cc);
}

-- several sets
lies-any : (n : ℕ) (family : ℕ → Pixels) (left right above below : ℕ) → ((k : ℕ) → k < n → Lies (family k) left right above below) → Lies (in_any n family) left right above below
lies-any n family left right above below each = record {
  left = λ u v h. let some = in_any-some n family u v h in (each some.0 some.1).left u v some.2;
  right = λ u v h. let some = in_any-some n family u v h in (each some.0 some.1).right u v some.2;
  above = λ u v h. let some = in_any-some n family u v h in (each some.0 some.1).above u v some.2;
  below = λ u v h. let some = in_any-some n family u v h in (each some.0 some.1).below u v some.2;
}

-- two sets side by side or one above the other have no place in common
pub apart-lies : {a b : Pixels} {l r t o l' r' t' o' : ℕ} → Lies a l r t o → Lies b l' r' t' o' → (r ≤ l') ⊎ ((r' ≤ l) ⊎ ((o ≤ t') ⊎ (o' ≤ t))) → Apart a b
apart-lies one other (inl h) = record { apart = λ u v p q. omega (arith, ints, one.right u v p, other.left u v q) }
apart-lies one other (inr (inl h)) = record { apart = λ u v p q. omega (arith, ints, one.left u v p, other.right u v q) }
apart-lies one other (inr (inr (inl h))) = record { apart = λ u v p q. omega (arith, ints, one.below u v p, other.above u v q) }
apart-lies one other (inr (inr (inr h))) = record { apart = λ u v p q. omega (arith, ints, one.above u v p, other.below u v q) }

-- a set in the inner region keeps clear of the frame
pub apart-frame : (paper : Paper) {a : Pixels} {l r t o : ℕ} → Lies a l r t o → 178 ≤ l → r ≤ 1522 → first_y paper + 130 ≤ t → o ≤ first_y paper + 130 + (52 * last_row paper - 260) → Apart a (frame_zone paper)
apart-frame paper lies h k m n = record {
  apart = λ u v p framed.
      let inside : inner_region paper u v ≡ true =
      rectangle-inside (pos 178) (pos (first_y paper + 130)) 1344 (52 * last_row paper - 260) u v
      (omega (arith, ints, lies.left u v p)) (omega (arith, ints, lies.right u v p))
      (omega (arith, ints, lies.above u v p)) (omega (arith, ints, lies.below u v p)) in
      absurd (cc (framed, ap not inside));
}

-- a dot of a glyph
lies-dot : (c x y column row : ℕ) → column < 5 → row < 7 → Lies (dot_pixels c x y column row) x (x + 10) y (y + 14)
lies-dot c x y column row few low =
    lies-if (dot_of c column row) (rectangle (pos (x + 2 * column)) (pos (y + 2 * row)) 2 2) x (x + 10) y (y + 14)
    (lies-rectangle (x + 2 * column) (y + 2 * row) 2 2 x (x + 10) y (y + 14) (omega arith) (omega arith) (omega arith) (omega arith))

-- the dots of a character
lies-glyph : (c x y : ℕ) → Lies (glyph_pixels c x y) x (x + 10) y (y + 14)
unfolding glyph_pixels column_pixels
lies-glyph c x y =
    lies-any 5 (column_pixels c x y) x (x + 10) y (y + 14)
    (λ column few. lies-any 7 (dot_pixels c x y column) x (x + 10) y (y + 14) (λ row low. lies-dot c x y column row few low))

-- a set within another lies where that one does
pub lies-within : {a b : Pixels} {l r t o : ℕ} → ((u v : ℤ) → a u v ≡ true → b u v ≡ true) → Lies b l r t o → Lies a l r t o
lies-within within lies = record {
  left = λ u v p. lies.left u v (within u v p);
  right = λ u v p. lies.right u v (within u v p);
  above = λ u v p. lies.above u v (within u v p);
  below = λ u v p. lies.below u v (within u v p);
}

-- the dots of a line lie in its cells
pub dots-in_cells : DotsLieInCells
unfolding line_pixels line_cells
dots-in_cells line u v h =
    let size = length (chars line.text) in
    let some = in_any-some size (character_pixels line) u v h in
    let x = line.x + 12 * some.0 in
    let dots = lies-glyph (get_or (chars line.text) some.0 0) x line.y in
    let inside : cell_pixels line some.0 u v ≡ true =
    rectangle-inside (pos x) (pos line.y) 12 20 u v
    (dots.left u v some.2) (omega (arith, ints, dots.right u v some.2))
    (dots.above u v some.2) (omega (arith, ints, dots.below u v some.2)) in
    in_any-one size some.0 (cell_pixels line) u v some.1 inside

-- the cells of a line of so many characters at most
pub lies-cells : (line : TextLine) (most : ℕ) → size_of line.text ≤ most → Lies (line_cells line) line.x (line.x + 12 * most) line.y (line.y + 20)
unfolding line_cells
lies-cells line most few =
    lies-any (length (chars line.text)) (cell_pixels line) line.x (line.x + 12 * most) line.y (line.y + 20)
    (λ i within. lies-rectangle (line.x + 12 * i) line.y 12 20 line.x (line.x + 12 * most) line.y (line.y + 20) (omega arith) (omega arith) (omega arith) (omega arith))

-- the pixels of a size round a place
lies-round : (half : HalfSides) (x y left right above below : ℕ) → left + half.across ≤ x → x + half.across ≤ right → above + half.down ≤ y → y + half.down ≤ below → Lies (round half x y) left right above below
lies-round half x y left right above below a b c d =
    let sides = rectangle-sides (pos x -ℤ pos half.across) (pos y -ℤ pos half.down) (half.across + half.across) (half.down + half.down) in
    record {
      left = λ u v h. omega (arith, ints, a, (sides u v h).0);
      right = λ u v h. omega (arith, ints, b, (sides u v h).1);
      above = λ u v h. omega (arith, ints, c, (sides u v h).2);
      below = λ u v h. omega (arith, ints, d, (sides u v h).3);
    }

-- the zone and the box of a bubble on the grid
pub lies-zone : (paper : Paper) (bubble : Bubble) (is : IsOnGrid paper bubble) → Lies (bubble_zone_of paper bubble) (214 + 432 * is.column) (286 + 432 * is.column) (y_of paper bubble.row - 25) (y_of paper bubble.row + 25)
lies-zone paper bubble is =
    lies-round (zone_of sizes.bubble) (x_of bubble.col) (y_of paper bubble.row) (214 + 432 * is.column) (286 + 432 * is.column) (y_of paper bubble.row - 25) (y_of paper bubble.row + 25)
    (omega (arith, is.col)) (omega (arith, is.col)) (omega (arith, first-y_low paper)) (omega arith)

pub lies-box : (paper : Paper) (bubble : Bubble) (is : IsOnGrid paper bubble) → Lies (bubble_box_of paper bubble) (230 + 432 * is.column) (270 + 432 * is.column) (y_of paper bubble.row - 13) (y_of paper bubble.row + 13)
lies-box paper bubble is =
    lies-round sizes.bubble (x_of bubble.col) (y_of paper bubble.row) (230 + 432 * is.column) (270 + 432 * is.column) (y_of paper bubble.row - 13) (y_of paper bubble.row + 13)
    (omega (arith, is.col)) (omega (arith, is.col)) (omega (arith, first-y_low paper)) (omega arith)

-- the zones of the boxes of three rows
lies-boxes : (paper : Paper) (first n : ℕ) → n < 84 → first ≤ 46 → Lies (box_zone_at paper (place_from first n)) 0 4000 (y_of paper first - 22) (y_of paper (first + 2) + 22)
lies-boxes paper first n few low =
    lies-round (zone_of sizes.code_box) (x_of (place_from first n).0) (y_of paper (place_from first n).1) 0 4000 (y_of paper first - 22) (y_of paper (first + 2) + 22)
    (omega arith) (omega arith) (omega (arith, first-y_low paper)) (omega (arith, few))

-- the zones of the page code
pub lies-code : (paper : Paper) → Lies (code_zones paper) 0 4000 (y_of paper (first_code_row paper) - 22) (y_of paper (first_code_row paper + 2) + 22)
unfolding code_zones
lies-code paper =
    lies-any 84 (λ n. box_zone_at paper (place_of_box paper n)) 0 4000 (y_of paper (first_code_row paper) - 22) (y_of paper (first_code_row paper + 2) + 22)
    (λ n few. lies-boxes paper (first_code_row paper) n few (omega (arith, last-row_high paper)))

-- the reserved zones
pub lies-reserved : (paper : Paper) → Lies (reserved_zones paper) 0 4000 (y_of paper 3 - 22) (y_of paper 5 + 22)
unfolding reserved_zones
lies-reserved paper =
    lies-any 84 (λ n. box_zone_at paper (reserved_place n)) 0 4000 (y_of paper 3 - 22) (y_of paper 5 + 22)
    (λ n few. lies-boxes paper 3 n few (omega arith))
