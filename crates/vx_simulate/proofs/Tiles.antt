-- How many of the flips that are drawn in tiles lie in a window.
use Rattle.std.proofs.Common.{◌≡◌, inl, inr, ℕ, ◌+◌, ◌*◌, ◌/◌, ◌%◌, ◌≤◌, Bool, true, false, ◌||◌, List, [], length, ℤ, pos, ◌+ℤ◌, refl, subst, arith}
use Rattle.std.specs.Prelude.{slice_index_or}
use Rattle.std.specs.List.{range_with_len}
use Rattle.std.proofs.lemmas.Int.{ints}
use Rattle.std.proofs.lemmas.Bool.{cases_lt}
use Rattle.rand_pcg.specs.Lcg.{Lcg}
use Rattle.vx_base.proofs.Booleans.{or-left, or-right}
use Rattle.vx_plane.specs.Plane.{Pixels, union, in_any, rectangle}
use Rattle.vx_plane.specs.Count.{count_in}
use Rattle.vx_plane.proofs.Counts.{count_in-le, count_in-union_le, count_in-rows, count_in-columns}
use Rattle.vx_plane.proofs.Pages.{in_any-some, rectangle-inside, rectangle-sides}
use Rattle.vx_grid.specs.declared.paper.Paper.{Paper}
use Rattle.vx_simulate.specs.Flips.{tile_columns, tile_rows, tile_places, draw_in_tiles}
use Rattle.vx_simulate.proofs.Counting.{count-places}
use Rattle.vx_simulate.proofs.Drawn.{lists-few, lists-inside}

module _ (paper : Paper) (g : Lcg) where
  abbrev drawn : List (List (ℕ × ℕ))
  drawn = (draw_in_tiles paper g).0

  -- all that is drawn in tiles
  abbrev pub tiles : Pixels
  tiles = in_any (tile_columns * tile_rows paper) (tile_places drawn)

  tile-inside : (k : ℕ) (u v : ℤ) → tile_places drawn k u v ≡ true → rectangle (pos (46 * (k % 40))) (pos (22 * (k / 40))) 46 22 u v ≡ true
  tile-inside k u v h =
      lists-inside 5 46 22 (range_with_len 0 (tile_columns * tile_rows paper)) g k (pos (46 * (k % 40))) (pos (22 * (k / 40))) u v (omega arith) (omega arith) h

  tile-few : (left top : ℤ) (w h k : ℕ) → count_in left top w h (tile_places drawn k) ≤ 5
  tile-few left top w h k =
      let few = lists-few 5 46 22 (range_with_len 0 (tile_columns * tile_rows paper)) g k in
      let most : count_in left top w h (tile_places drawn k) ≤ length (slice_index_or drawn k []) = count-places left top w h (pos (46 * (k % 40))) (pos (22 * (k / 40))) (slice_index_or drawn k []) in
      omega (arith, few, most)

  -- the four tiles that a window may meet
  abbrev four : ℕ → Pixels
  four k = union (union (tile_places drawn k) (tile_places drawn (k + 1))) (union (tile_places drawn (k + 40)) (tile_places drawn (k + 41)))

  first-of : (a b c d : Bool) → a ≡ true → ((a || b) || (c || d)) ≡ true
  first-of true b c d h = refl
  first-of false b c d h = cc

  second-of : (a b c d : Bool) → b ≡ true → ((a || b) || (c || d)) ≡ true
  second-of true b c d h = refl
  second-of false true c d h = refl
  second-of false false c d h = cc

  third-of : (a b c d : Bool) → c ≡ true → ((a || b) || (c || d)) ≡ true
  third-of a b c d h = or-right (a || b) (c || d) (or-left c d h)

  fourth-of : (a b c d : Bool) → d ≡ true → ((a || b) || (c || d)) ≡ true
  fourth-of a b c d h = or-right (a || b) (c || d) (or-right c d h)

  in-four : (l t : ℕ) (u v : ℤ) → rectangle (pos l) (pos t) 46 22 u v ≡ true → tiles u v ≡ true → four (40 * (t / 22) + l / 46) u v ≡ true
  in-four l t u v inside h =
      let window = rectangle-sides (pos l) (pos t) 46 22 u v inside in
      let some = in_any-some (tile_columns * tile_rows paper) (tile_places drawn) u v h in
      let k : ℕ = some.0 in
      let at = rectangle-sides (pos (46 * (k % 40))) (pos (22 * (k / 40))) 46 22 u v (tile-inside k u v some.2) in
      let k0 : ℕ = 40 * (t / 22) + l / 46 in
      let Here : ℕ → Type 0 = λ m. tile_places drawn m u v ≡ true in
      let a : Bool = tile_places drawn k0 u v in
      let b : Bool = tile_places drawn (k0 + 1) u v in
      let c : Bool = tile_places drawn (k0 + 40) u v in
      let d : Bool = tile_places drawn (k0 + 41) u v in
      let column_low : l / 46 ≤ k % 40 = omega (arith, ints, window.0, at.1) in
      let column_high : k % 40 ≤ l / 46 + 1 = omega (arith, ints, window.1, at.0) in
      let row_low : t / 22 ≤ k / 40 = omega (arith, ints, window.2, at.3) in
      let row_high : k / 40 ≤ t / 22 + 1 = omega (arith, ints, window.3, at.2) in
      elim (cases_lt (k / 40) (t / 22 + 1)) [
        | inl upper ↦ elim (cases_lt (k % 40) (l / 46 + 1)) [
          | inl nearer ↦ (let is : k ≡ k0 = omega (arith, upper, nearer, column_low, row_low) in first-of a b c d (subst Here is some.2))
          | inr farther ↦ (let is : k ≡ k0 + 1 = omega (arith, upper, farther, column_high, row_low) in second-of a b c d (subst Here is some.2))
        ]
        | inr lower ↦ elim (cases_lt (k % 40) (l / 46 + 1)) [
          | inl nearer ↦ (let is : k ≡ k0 + 40 = omega (arith, lower, nearer, column_low, row_high) in third-of a b c d (subst Here is some.2))
          | inr farther ↦ (let is : k ≡ k0 + 41 = omega (arith, lower, farther, column_high, row_high) in fourth-of a b c d (subst Here is some.2))
        ]
      ]

  -- in a window are at most 20 of them
  pub window-few : (l t : ℕ) → count_in (pos l) (pos t) 46 22 tiles ≤ 20
  window-few l t =
      let k : ℕ = 40 * (t / 22) + l / 46 in
      let L : ℤ = pos l in
      let T : ℤ = pos t in
      let most : count_in L T 46 22 tiles ≤ count_in L T 46 22 (four k) = count_in-le L T 46 22 tiles (four k) (λ u v a b c d h. in-four l t u v (rectangle-inside L T 46 22 u v a b c d) h) in
      let both : count_in L T 46 22 (four k) ≤ count_in L T 46 22 (union (tile_places drawn k) (tile_places drawn (k + 1))) + count_in L T 46 22 (union (tile_places drawn (k + 40)) (tile_places drawn (k + 41))) =
      count_in-union_le L T 46 22 (union (tile_places drawn k) (tile_places drawn (k + 1))) (union (tile_places drawn (k + 40)) (tile_places drawn (k + 41))) in
      let upper = count_in-union_le L T 46 22 (tile_places drawn k) (tile_places drawn (k + 1)) in
      let lower = count_in-union_le L T 46 22 (tile_places drawn (k + 40)) (tile_places drawn (k + 41)) in
      omega (arith, most, both, upper, lower, tile-few L T 46 22 k, tile-few L T 46 22 (k + 1), tile-few L T 46 22 (k + 40), tile-few L T 46 22 (k + 41))

  -- and in six windows at most 120
  pub windows-few : (l t : ℕ) → count_in (pos l) (pos t) 92 66 tiles ≤ 120
  windows-few l t =
      let columns : count_in (pos l) (pos t) (46 + 46) 66 tiles ≡ count_in (pos l) (pos t) 46 66 tiles + count_in (pos l +ℤ pos 46) (pos t) 46 66 tiles = count_in-columns (pos l) (pos t) 46 46 66 tiles in
      let left = rows l t in
      let right = rows (l + 46) t in
      omega (arith, columns, left, right)
    where
      rows : (l t : ℕ) → count_in (pos l) (pos t) 46 66 tiles ≤ 60
      rows l t =
          let first : count_in (pos l) (pos t) 46 (22 + 44) tiles ≡ count_in (pos l) (pos t) 46 22 tiles + count_in (pos l) (pos t +ℤ pos 22) 46 44 tiles = count_in-rows (pos l) (pos t) 46 22 44 tiles in
          let second : count_in (pos l) (pos (t + 22)) 46 (22 + 22) tiles ≡ count_in (pos l) (pos (t + 22)) 46 22 tiles + count_in (pos l) (pos (t + 22) +ℤ pos 22) 46 22 tiles = count_in-rows (pos l) (pos (t + 22)) 46 22 22 tiles in
          omega (arith, first, second, window-few l t, window-few l (t + 22), window-few l (t + 22 + 22))
