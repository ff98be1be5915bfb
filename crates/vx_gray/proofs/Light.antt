-- Laws of grayscale pages that show scans.
use Rattle.std.proofs.Common.{◌≡◌, ◌+◌, ◌-◌, ◌*◌, ◌/◌, ◌%◌, ◌<◌, ◌≤◌, ℕ, Bool, true, false, cond, nat_lt, pos, inl, inr, refl, ap, ap₂, sym, ◌∙◌, arith}
use Rattle.std.proofs.lemmas.Bool.{lt-ltb, le-ltb, cases_lt}
use Rattle.std.proofs.lemmas.Nat.{div-mul-add, mul-add-lt}
use Rattle.std.proofs.Math.Nat.{div-add-mod'}
use Rattle.std.proofs.lemmas.List.FromFn.{get_or-map-range_with_len}
use Rattle.vx_plane.specs.Plane.{Page, page_of, dark_at}
use Rattle.vx_plane.proofs.Pages.{page_of-same}
use Rattle.vx_gray.specs.Gray.{Gray, value_at, tile_of, near_start, near_size, column_top, top_of, dark_in, bits_of}
use Rattle.vx_gray.specs.Light.{IsIn, IsOf, IsNear, IsLit, Shows, shown, FallsNear, FallsSlowly, HasLightNear}
use Rattle.vx_gray.proofs.Tops.{greatest_bound, greatest_reached, value_inside, value_beside, value_under}

-- a bound of the values near a tile is one of their greatest
top_bound : (gray : Gray) (across down bound : ℕ)
    → ((u v : ℕ) → near_start across ≤ u → u < near_start across + near_size across → near_start down ≤ v → v < near_start down + near_size down →
    value_at gray u v ≤ bound) → top_of gray across down ≤ bound
unfolding top_of
top_bound gray across down bound each =
    greatest_bound (near_size across) bound (λ i. column_top gray (near_start down) (near_size down) (near_start across + i))
    (λ i h. greatest_bound (near_size down) bound (λ j. value_at gray (near_start across + i) (near_start down + j))
    (λ j k. each (near_start across + i) (near_start down + j) (omega arith) (omega arith) (omega arith) (omega arith)))

-- no value near a tile is above their greatest
top_reached : (gray : Gray) (across down u v : ℕ) → IsNear across down u v → value_at gray u v ≤ top_of gray across down
unfolding top_of
top_reached gray across down u v near =
    let left : near_start across + (u - near_start across) ≡ u = omega (arith, near.left, near.right) in
    let top : near_start down + (v - near_start down) ≡ v = omega (arith, near.above, near.below) in
    let inner : value_at gray (near_start across + (u - near_start across)) (near_start down + (v - near_start down)) ≤ column_top gray
    (near_start down) (near_size down) (near_start across + (u - near_start across)) =
    greatest_reached (near_size down) (v - near_start down) (λ j. value_at gray (near_start across + (u - near_start across)) (near_start down + j))
    (omega (arith, near.above, near.below)) in
    let outer : column_top gray (near_start down) (near_size down) (near_start across + (u - near_start across)) ≤ top_of gray across down =
    greatest_reached (near_size across) (u - near_start across) (λ i. column_top gray (near_start down) (near_size down) (near_start across + i))
    (omega (arith, near.left, near.right)) in
    let same : value_at gray (near_start across + (u - near_start across)) (near_start down + (v - near_start down)) ≡ value_at gray u v = ap₂
    (value_at gray) left top in
    omega arith

-- near a tile that is lit no value is above twice its light, in the frame or outside it
near_bound : (gray : Gray) (scan : Page) (across down light u v : ℕ) → IsLit gray scan across down light → IsNear across down u v
    → value_at gray u v ≤ 2 * light
near_bound gray scan across down light u v lit near = elim (cases_lt u gray.width) [
  | inl l ↦ elim (cases_lt v gray.height) [
    | inl k ↦ lit.near u v (record { column = l; row = k }) near
    | inr k ↦ omega (arith, value_under gray u v k)
  ]
  | inr l ↦ omega (arith, value_beside gray u v l)
]

-- a place is dark where the scan is dark
lit_pixel : (gray : Gray) (scan : Page) (u v light : ℕ) → IsIn gray.width gray.height u v → IsLit gray scan (tile_of u) (tile_of v) light
    → nat_lt (2 * value_at gray u v) (top_of gray (tile_of u) (tile_of v)) ≡ dark_at scan (pos u) (pos v)
lit_pixel gray scan u v light inside lit =
    let across : ℕ = tile_of u in
    let down : ℕ = tile_of v in
    let here : IsOf across down u v = record { column = refl; row = refl } in
    let high : top_of gray across down ≤ 2 * light =
    top_bound gray across down (2 * light)
    (λ x y a b c d. near_bound gray scan across down light x y lit
    (record { left = omega arith; right = omega arith; above = omega arith; below = omega arith })) in
    let low : light ≤ top_of gray across down =
    (let reached : value_at gray lit.some.0 lit.some.1 ≤ top_of gray across down = top_reached gray across down lit.some.0 lit.some.1 lit.some.3 in
    omega (arith, lit.some.4)) in
    let with : (t : Bool) → dark_at scan (pos u) (pos v) ≡ t → nat_lt (2 * value_at gray u v) (top_of gray across down) ≡ t =
    λ t. elim t as (λ s. dark_at scan (pos u) (pos v) ≡ s → nat_lt (2 * value_at gray u v) (top_of gray across down) ≡ s) [
      | true ↦ λ e. let dark : 2 * value_at gray u v < light = lit.darker u v inside here e in lt-ltb (2 * value_at gray u v)
          (top_of gray across down) (omega arith)
      | false ↦ λ e. let bright : light ≤ value_at gray u v = lit.lighter u v inside here e in le-ltb (2 * value_at gray u v)
          (top_of gray across down) (omega arith)
    ] in
    with (dark_at scan (pos u) (pos v)) refl

-- the bits of a page are the scan that it shows
pub bits_shown : (gray : Gray) (scan : Page) → scan ≡ page_of scan.width scan.height (dark_at scan) → Shows gray scan → bits_of gray ≡ scan
bits_shown gray scan whole shows =
    page_of-same gray.width gray.height (dark_in gray) (dark_at scan)
    (λ u v l m.
    let inside : IsIn gray.width gray.height u v = record { column = l; row = m } in
    let lit = shows.lit u v inside in
    lit_pixel gray scan u v lit.0 inside lit.1)
    ∙ (ap₂ (λ w h. page_of w h (dark_at scan)) shows.width_is shows.height_is
    ∙ sym whole)

-- the value of a scan that is shown
shown_value : (scan : Page) (paper ink : ℕ → ℕ → ℕ) (u v : ℕ) → IsIn scan.width scan.height u v
    → value_at (shown scan paper ink) u v ≡ cond (dark_at scan (pos u) (pos v)) (ink u v) (paper u v)
unfolding shown
shown_value scan paper ink u v inside =
    let at : ℕ = v * scan.width + u in
    let row : at / scan.width ≡ v = div-mul-add v scan.width u inside.column in
    let parts : at / scan.width * scan.width + at % scan.width ≡ at = div-add-mod' at scan.width in
    let column : at % scan.width ≡ u = omega (arith, parts, ap (λ n. n * scan.width) row) in
    let within : at < scan.height * scan.width = omega (arith, mul-add-lt v scan.width u scan.height inside.row inside.column) in
    value_inside (shown scan paper ink) u v inside.column inside.row
    ∙ (get_or-map-range_with_len (λ n. cond (dark_at scan (pos (n % scan.width)) (pos (n / scan.width))) (ink (n % scan.width) (n / scan.width))
    (paper (n % scan.width) (n / scan.width))) 0 (scan.height * scan.width) at at 0 within (omega arith)
    ∙ ap₂ (λ x y. cond (dark_at scan (pos x) (pos y)) (ink x y) (paper x y)) column row)

either_bound : (t : Bool) (a b light : ℕ) → a ≤ 2 * light → b ≤ 2 * light → cond t a b ≤ 2 * light
either_bound true a b light h k = h
either_bound false a b light h k = k

shown_lit : (scan : Page) (paper ink : ℕ → ℕ → ℕ) (across down light : ℕ) → FallsNear scan.width scan.height paper ink across down light
    → ((x : ℕ) × (y : ℕ) × IsIn scan.width scan.height x y × IsNear across down x y × (dark_at scan (pos x) (pos y) ≡ false)) → IsLit
    (shown scan paper ink) scan across down light
unfolding shown
shown_lit scan paper ink across down light falls place = record {
  least = falls.least;
  most = falls.most;
  lighter = λ u v inside here e.
      let value : value_at (shown scan paper ink) u v ≡ paper u v = shown_value scan paper ink u v inside ∙ ap (λ t. cond t (ink u v) (paper u v)) e in
      omega (arith, (falls.papers u v inside (record { left = omega arith; right = omega arith; above = omega arith; below = omega arith })).0);
  darker = λ u v inside here e.
      let value : value_at (shown scan paper ink) u v ≡ ink u v = shown_value scan paper ink u v inside ∙ ap (λ t. cond t (ink u v) (paper u v)) e in
      omega (arith, falls.inks u v inside (record { left = omega arith; right = omega arith; above = omega arith; below = omega arith }));
  near = λ u v inside near.
      let bound : cond (dark_at scan (pos u) (pos v)) (ink u v) (paper u v) ≤ 2 * light =
      either_bound (dark_at scan (pos u) (pos v)) (ink u v) (paper u v) light (omega (arith, falls.inks u v inside near)) (falls.papers u v inside near).1 in
      omega (arith, shown_value scan paper ink u v inside);
  some =
      (let value : value_at (shown scan paper ink) place.0 place.1 ≡ paper place.0 place.1 =
      shown_value scan paper ink place.0 place.1 place.2 ∙ ap (λ t. cond t (ink place.0 place.1) (paper place.0 place.1)) place.4 in
      (place.0, place.1, place.2, place.3, omega (arith, (falls.papers place.0 place.1 place.2 place.3).0)));
}

-- a scan with a light place near each tile is shown where the light falls slowly
pub slowly_shown : (scan : Page) (paper ink : ℕ → ℕ → ℕ) → HasLightNear scan → FallsSlowly scan.width scan.height paper ink
    → Shows (shown scan paper ink) scan
unfolding shown
slowly_shown scan paper ink light falls = record {
  width_is = refl;
  height_is = refl;
  lit = λ u v inside. let near = falls u v inside in (near.0, shown_lit scan paper ink (tile_of u) (tile_of v) near.0 near.1 (light u v inside));
}

-- two levels fall slowly
pub levels_fall : (width height paper ink : ℕ) → 1 ≤ paper → paper ≤ 255 → 2 * ink < paper → FallsSlowly width height (λ u v. paper) (λ u v. ink)
levels_fall width height paper ink least most dark u v inside = (
  paper,
  record {
    least = least;
    most = most;
    papers = λ x y i n. (omega arith, omega arith);
    inks = λ x y i n. dark;
  },
)
