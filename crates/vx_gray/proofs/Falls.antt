-- A light that falls evenly from the left edge of a page to its right one falls slowly.
use Rattle.std.proofs.Common.{◌+◌, ◌-◌, ◌*◌, ◌/◌, ◌<◌, ◌≤◌, ℕ, min, arith}
use Rattle.std.proofs.lemmas.Nat.{mul-le}
use Rattle.vx_grid.specs.Paper.{page_width}
use Rattle.vx_gray.specs.Fits.{falling}
use Rattle.vx_gray.specs.Gray.{tile_of}
use Rattle.vx_gray.specs.Light.{IsIn, IsNear, FallsSlowly}

-- what falls in a column and in one at most 191 columns right of it, the last of three tiles
record FallsIn (bright fall x last : ℕ) : Type 0 where
  few : 4 * fall ≤ 3 * bright
  before : fall * x ≤ fall * last
  near : fall * last ≤ fall * x + 191 * fall
  whole : fall * last ≤ 1699 * fall

module _ (bright fall x last : ℕ) (least : 8 ≤ bright) (falls : FallsIn bright fall x last) where
  lightest : 1 ≤ bright - fall * last / 1700
  lightest = omega (arith, least, falls.few, falls.whole)

  lighter : bright - fall * last / 1700 ≤ bright - fall * x / 1700
  lighter = omega (arith, falls.before)

  not_twice : bright - fall * x / 1700 ≤ 2 * (bright - fall * last / 1700)
  not_twice = omega (arith, least, falls.few, falls.near, falls.whole)

  quarter_dark : 2 * ((bright - fall * x / 1700) / 4) < bright - fall * last / 1700
  quarter_dark = omega (arith, least, falls.few, falls.near, falls.whole)

falls-in : (bright fall x last : ℕ) → 4 * fall ≤ 3 * bright → x ≤ last → last ≤ x + 191 → last ≤ 1699 → FallsIn bright fall x last
falls-in bright fall x last few left right whole = record {
  few = few;
  before = mul-le fall x fall last (omega arith) left;
  near =
      (let all : fall * last ≤ fall * (x + 191) = mul-le fall last fall (x + 191) (omega arith) right in
      omega (arith, all));
  whole =
      (let all : fall * last ≤ fall * 1699 = mul-le fall last fall 1699 (omega arith) whole in
      omega (arith, all));
}

-- the last column near a tile
last_near : ℕ → ℕ
last_near across = min (64 * across + 127) 1699

near-falls : (bright fall u x : ℕ) → 4 * fall ≤ 3 * bright → u < page_width → x < page_width → tile_of u ≤ tile_of x + 1 → tile_of x ≤ tile_of u + 1
    → FallsIn bright fall x (last_near (tile_of u))
unfolding last_near
near-falls bright fall u x few inside within left right =
    falls-in bright fall x (min (64 * tile_of u + 127) 1699) few (omega (arith, within, right)) (omega (arith, inside, left)) (omega arith)

pub evenly-slowly : (bright fall height : ℕ) → 8 ≤ bright → bright ≤ 255 → 4 * fall ≤ 3 * bright
    → FallsSlowly page_width height (falling bright fall) (λ u v. falling bright fall u v / 4)
evenly-slowly bright fall height least most few u v inside =
    let last : ℕ = last_near (tile_of u) in
    let here : FallsIn bright fall u last = near-falls bright fall u u few inside.column inside.column (omega arith) (omega arith) in
    let there : (x y : ℕ) → IsIn page_width height x y → IsNear (tile_of u) (tile_of v) x y → FallsIn bright fall x last =
    λ x y i n. near-falls bright fall u x few inside.column i.column n.left n.right in (
      bright - fall * last / 1700,
      record {
        least = lightest bright fall u last least here;
        most = omega (arith, most);
        papers = λ x y i n. (lighter bright fall x last least (there x y i n), not_twice bright fall x last least (there x y i n));
        inks = λ x y i n. quarter_dark bright fall x last least (there x y i n);
      },
    )
