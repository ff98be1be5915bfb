-- The paper with light margins round it.
use Rattle.std.proofs.Common.{◌≡◌, ◌⊎◌, ℕ, ◌+◌, ◌-◌, ◌*◌, ◌/◌, ◌%◌, ◌<◌, ◌≤◌, ◌==◌, Bool, false, List, [], ◌∷◌, ◌++◌, take, length, get_or, replicate, bit_and, ℤ, pos, ◌-ℤ◌, ◌≤ℤ◌, ◌<ℤ◌, ap, ap₂, sym, subst, ◌∙◌, inl, inr, arith, length-append, length-take-le, get_or-take}
use Rattle.std.proofs.lemmas.List.{get_or_append_left, get_or_at}
use Rattle.std.specs.Int.{bit_at}
use Rattle.std.proofs.lemmas.Int.{ints}
use Rattle.std.proofs.lemmas.Bool.{cases_lt}
use Rattle.std.proofs.lemmas.List.{get_or-append_right, length-replicate, get_or-replicate}
use Rattle.std.proofs.lemmas.List.FromFn.{get_or-map-range_with_len}
use Rattle.std.proofs.lemmas.Nat.Bits.{bit_at-lt, bit_at-zero, bit_at_and, bit_at_mask_inside, bit_at_mask_below}
use Rattle.vx_plane.specs.Plane.{Pixels, Page, page_of, dark_at}
use Rattle.vx_plane.proofs.Pages.{page_of-same, dark_at-inside, dark_at-out_of_frame}
use Rattle.vx_bits.specs.Packed.{packed_pixel, packed_pixels, packed_page, unpacked}
use Rattle.vx_simulate.specs.Rows.{in_margins, margined, HoldsRows}

-- a byte of zeros has no dark pixel
light-byte : (n j : ℕ) → n ≡ 0 → (bit_at n j == 1) ≡ false
light-byte n j is = ap (λ m. bit_at m j == 1) is ∙ ap (λ (b : ℕ). b == 1) (bit_at-zero j)

-- one row more of 264 bytes
pub holds-more : (bytes row : List ℕ) (set : Pixels) (rows : ℕ) → HoldsRows bytes set rows → length row ≡ 264
    → ((x : ℕ) → x < 2112 → packed_pixel row 0 x ≡ set (pos x) (pos rows)) → HoldsRows (bytes ++ row) set (rows + 1)
holds-more bytes row set rows holds size pixels = record {
  size = omega (arith, holds.size, size, length-append bytes row);
  pixels = λ x y few less. elim (cases_lt y rows) [
    | inl before ↦
        ap (λ b. bit_at b (7 - x % 8) == 1) (get_or_append_left bytes row 0 (y * 264 + x / 8) (omega (arith, holds.size, few, before)))
        ∙ holds.pixels x y few before
    | inr last ↦
        let at : y ≡ rows = omega (arith, last, less) in
        let place : y * 264 + x / 8 - rows * 264 ≡ 0 + x / 8 = omega (arith, at) in
        ap (λ b. bit_at b (7 - x % 8) == 1) (
        get_or-append_right bytes row (rows * 264) (y * 264 + x / 8) 0 holds.size (omega (arith, at))
        ∙ ap (λ i. get_or row i 0) place)
        ∙ pixels x few
        ∙ ap (λ n. set (pos x) (pos n)) (sym at)
  ];
}

-- many light rows more
pub holds-light : (bytes : List ℕ) (set : Pixels) (rows many : ℕ) → HoldsRows bytes set rows
    → ((x y : ℕ) → rows ≤ y → set (pos x) (pos y) ≡ false) → HoldsRows (bytes ++ replicate (many * 264) 0) set (rows + many)
holds-light bytes set rows many holds light = record {
  size = omega (arith, holds.size, length-append bytes (replicate (many * 264) 0), length-replicate {A = ℕ} (many * 264) 0);
  pixels = λ x y few less. elim (cases_lt y rows) [
    | inl before ↦
        ap (λ b. bit_at b (7 - x % 8) == 1) (get_or_append_left bytes (replicate (many * 264) 0) 0 (y * 264 + x / 8) (omega (arith, holds.size, few, before)))
        ∙ holds.pixels x y few before
    | inr past ↦
        let byte : get_or (bytes ++ replicate (many * 264) 0) (y * 264 + x / 8) 0 ≡ 0 =
        get_or-append_right bytes (replicate (many * 264) 0) (rows * 264) (y * 264 + x / 8) 0 holds.size (omega (arith, past))
        ∙ get_or-replicate (many * 264) (y * 264 + x / 8 - rows * 264) 0 0 (omega (arith, past, less, few)) in
        light-byte (get_or (bytes ++ replicate (many * 264) 0) (y * 264 + x / 8) 0) (7 - x % 8) byte ∙ sym (light x y past)
  ];
}

-- light rows first
pub holds-first : (set : Pixels) (many : ℕ) → ((x y : ℕ) → y < many → set (pos x) (pos y) ≡ false) → HoldsRows (replicate (many * 264) 0) set many
holds-first set many light = record {
  size = length-replicate {A = ℕ} (many * 264) 0;
  pixels = λ x y few less.
      light-byte (get_or (replicate (many * 264) 0) (y * 264 + x / 8) 0) (7 - x % 8) (get_or-replicate (many * 264) (y * 264 + x / 8) 0 0 (omega (arith, few, less)))
      ∙ sym (light x y less);
}

-- the parts of a row of the paper in its margins
abbrev left_part : List ℕ → List ℕ
left_part row = replicate 20 0 ++ take 212 row

abbrev last_part : List ℕ → List ℕ
last_part row = bit_and (get_or row 212 0) 240 ∷ []

left-length : (row : List ℕ) → length row ≡ 213 → length (left_part row) ≡ 232
left-length row size = omega (arith, length-append (replicate 20 0) (take 212 row), length-replicate {A = ℕ} 20 0, length-take-le 212 row (omega (arith, size)))

both-length : (row : List ℕ) → length row ≡ 213 → length (left_part row ++ last_part row) ≡ 233
both-length row size = omega (arith, left-length row size, length-append (left_part row) (last_part row))

pub length-margined : (row : List ℕ) → length row ≡ 213 → length (margined row) ≡ 264
length-margined row size =
    omega (arith, both-length row size, length-append (left_part row ++ last_part row) (replicate 31 0), length-replicate {A = ℕ} 31 0)

-- its bytes
byte-before : (row : List ℕ) (i : ℕ) → length row ≡ 213 → i < 20 → get_or (margined row) i 0 ≡ 0
byte-before row i size few =
    get_or_append_left (left_part row ++ last_part row) (replicate 31 0) 0 i (omega (arith, both-length row size, few))
    ∙ get_or_append_left (left_part row) (last_part row) 0 i (omega (arith, left-length row size, few))
    ∙ get_or_append_left (replicate 20 0) (take 212 row) 0 i (omega (arith, length-replicate {A = ℕ} 20 0, few))
    ∙ get_or-replicate 20 i 0 0 few

byte-inside : (row : List ℕ) (i : ℕ) → length row ≡ 213 → 20 ≤ i → i < 232 → get_or (margined row) i 0 ≡ get_or row (i - 20) 0
byte-inside row i size from to =
    get_or_append_left (left_part row ++ last_part row) (replicate 31 0) 0 i (omega (arith, both-length row size, to))
    ∙ get_or_append_left (left_part row) (last_part row) 0 i (omega (arith, left-length row size, to))
    ∙ get_or-append_right (replicate 20 0) (take 212 row) 20 i 0 (length-replicate {A = ℕ} 20 0) from
    ∙ get_or-take 212 row (i - 20) 0 (omega (arith, from, to))

byte-last : (row : List ℕ) → length row ≡ 213 → get_or (margined row) 232 0 ≡ bit_and (get_or row 212 0) 240
byte-last row size =
    get_or_append_left (left_part row ++ last_part row) (replicate 31 0) 0 232 (omega (arith, both-length row size))
    ∙ get_or_at (left_part row) (bit_and (get_or row 212 0) 240) [] 0 232 (left-length row size)

byte-after : (row : List ℕ) (i : ℕ) → length row ≡ 213 → 233 ≤ i → i < 264 → get_or (margined row) i 0 ≡ 0
byte-after row i size from to =
    get_or-append_right (left_part row ++ last_part row) (replicate 31 0) 233 i 0 (both-length row size) from
    ∙ get_or-replicate 31 (i - 233) 0 0 (omega (arith, from, to))

-- the bits of the last byte of a row without its padding
kept-bit : (n j : ℕ) → 4 ≤ j → j < 8 → bit_at (bit_and n 240) j ≡ bit_at n j
kept-bit n j from to =
    let one : bit_at 240 j ≡ 1 = bit_at_mask_inside 4 8 j from to in
    omega (arith, bit_at_and n 240 j, bit_at-lt n j, one)

cleared-bit : (n j : ℕ) → j < 4 → bit_at (bit_and n 240) j ≡ 0
cleared-bit n j few =
    let none : bit_at 240 j ≡ 0 = bit_at_mask_below 4 8 j few in
    omega (arith, bit_at_and n 240 j, none)

-- its pixels: those of the row, 160 columns to the right
pub margined-inside : (row : List ℕ) (x : ℕ) → length row ≡ 213 → 160 ≤ x → x < 1860 → packed_pixel (margined row) 0 x ≡ packed_pixel row 0 (x - 160)
margined-inside row x size from to =
    let bit : 7 - x % 8 ≡ 7 - (x - 160) % 8 = omega (arith, from) in
    elim (cases_lt (x / 8) 232) [
      | inl inside ↦
          let here : 0 + x / 8 ≡ x / 8 = omega arith in
          let there : x / 8 - 20 ≡ 0 + (x - 160) / 8 = omega (arith, from) in
          ap (λ b. bit_at b (7 - x % 8) == 1) (
          ap (λ i. get_or (margined row) i 0) here ∙ byte-inside row (x / 8) size (omega (arith, from)) inside ∙ ap (λ i. get_or row i 0) there)
          ∙ ap (λ j. bit_at (get_or row (0 + (x - 160) / 8) 0) j == 1) bit
      | inr last ↦
          let here : 0 + x / 8 ≡ 232 = omega (arith, last, to) in
          let there : 212 ≡ 0 + (x - 160) / 8 = omega (arith, last, to) in
          ap (λ b. bit_at b (7 - x % 8) == 1) (ap (λ i. get_or (margined row) i 0) here ∙ byte-last row size)
          ∙ ap (λ (n : ℕ). n == 1) (kept-bit (get_or row 212 0) (7 - x % 8) (omega (arith, last, to)) (omega arith))
          ∙ ap₂ (λ i j. bit_at (get_or row i 0) j == 1) there bit
    ]

pub margined-left : (row : List ℕ) (x : ℕ) → length row ≡ 213 → x < 160 → packed_pixel (margined row) 0 x ≡ false
margined-left row x size few =
    light-byte (get_or (margined row) (0 + x / 8) 0) (7 - x % 8) (byte-before row (0 + x / 8) size (omega (arith, few)))

pub margined-right : (row : List ℕ) (x : ℕ) → length row ≡ 213 → 1860 ≤ x → x < 2112 → packed_pixel (margined row) 0 x ≡ false
margined-right row x size from to =
    elim (cases_lt (x / 8) 233) [
      | inl last ↦
          let here : 0 + x / 8 ≡ 232 = omega (arith, last, from) in
          ap (λ b. bit_at b (7 - x % 8) == 1) (ap (λ i. get_or (margined row) i 0) here ∙ byte-last row size)
          ∙ ap (λ (n : ℕ). n == 1) (cleared-bit (get_or row 212 0) (7 - x % 8) (omega (arith, last, from)))
      | inr past ↦
          light-byte (get_or (margined row) (0 + x / 8) 0) (7 - x % 8) (byte-after row (0 + x / 8) size (omega (arith, past)) (omega (arith, to)))
    ]

-- a pixel of a row
get_or-unpacked : (width x : ℕ) (bytes : List ℕ) → x < width → get_or (unpacked width bytes) x false ≡ packed_pixel bytes 0 x
unfolding unpacked
get_or-unpacked width x bytes h = get_or-map-range_with_len _ 0 width x x false h (omega arith)

-- a page is what its dark places make
abbrev IsWhole : Page → Type 0
IsWhole page = page ≡ page_of page.width page.height (dark_at page)

-- places above, below and beside a page are light
outside : (page : Page) (u v : ℤ) → IsWhole page → (u <ℤ pos 0) ⊎ (pos page.width ≤ℤ u) ⊎ (v <ℤ pos 0) ⊎ (pos page.height ≤ℤ v) → dark_at page u v ≡ false
outside page u v whole out =
    ap (λ (p : Page). dark_at p u v) whole ∙ dark_at-out_of_frame page.width page.height (dark_at page) u v out

pub light-above : (page : Page) (x y : ℕ) → IsWhole page → y < 136 → in_margins (dark_at page) (pos x) (pos y) ≡ false
light-above page x y whole few = outside page (pos x -ℤ pos 160) (pos y -ℤ pos 136) whole (inr (inr (inl (omega (arith, ints, few)))))

pub light-below : (page : Page) (x y : ℕ) → IsWhole page → 136 + page.height ≤ y → in_margins (dark_at page) (pos x) (pos y) ≡ false
light-below page x y whole past = outside page (pos x -ℤ pos 160) (pos y -ℤ pos 136) whole (inr (inr (inr (omega (arith, ints, past)))))

-- a row of the paper in its margins
pub margined-row : (page : Page) (row : List ℕ) (y x : ℕ) → IsWhole page → page.width ≡ 1700 → length row ≡ 213
    → unpacked page.width row ≡ get_or page.rows y [] → x < 2112 → packed_pixel (margined row) 0 x ≡ in_margins (dark_at page) (pos x) (pos (136 + y))
margined-row page row y x whole wide size is few =
    let down : pos (136 + y) -ℤ pos 136 ≡ pos y = omega (arith, ints) in
    elim (cases_lt x 160) [
      | inl before ↦
          margined-left row x size before
          ∙ sym (outside page (pos x -ℤ pos 160) (pos (136 + y) -ℤ pos 136) whole (inl (omega (arith, ints, before))))
      | inr from ↦ elim (cases_lt x 1860) [
        | inl inside ↦
            let across : pos x -ℤ pos 160 ≡ pos (x - 160) = omega (arith, ints, from) in
            margined-inside row x size from inside
            ∙ sym (get_or-unpacked page.width (x - 160) row (omega (arith, wide, inside)))
            ∙ ap (λ (r : List Bool). get_or r (x - 160) false) is
            ∙ ap₂ (dark_at page) (sym across) (sym down)
        | inr past ↦
            margined-right row x size past few
            ∙ sym (outside page (pos x -ℤ pos 160) (pos (136 + y) -ℤ pos 136) whole (inr (inl (omega (arith, ints, past, wide)))))
      ]
    ]

-- packed rows that hold the paper in its margins are a page of it
pub page-held : (bytes : List ℕ) (set : Pixels) (rows : ℕ) → HoldsRows bytes set rows → packed_page 2112 rows bytes ≡ page_of 2112 rows set
page-held bytes set rows holds = page_of-same 2112 rows _ set (λ x y few less. holds.pixels x y few less)

-- and the other way round
pub page-holds : (bytes : List ℕ) (paper : Pixels) (height x y : ℕ) → packed_page 2112 height bytes ≡ page_of 2112 height (in_margins paper)
    → x < 2112 → y < height → packed_pixel bytes (y * 264) x ≡ paper (pos x -ℤ pos 160) (pos y -ℤ pos 136)
page-holds bytes paper height x y is few less =
    sym (dark_at-inside 2112 height x y (packed_pixels 2112 bytes) few less)
    ∙ ap (λ (p : Page). dark_at p (pos x) (pos y)) is
    ∙ dark_at-inside 2112 height x y (in_margins paper) few less

-- all rows of the paper in its margins
pub held-all : (page : Page) (rows all : List ℕ) (y : ℕ) → IsWhole page → y ≡ page.height → HoldsRows rows (in_margins (dark_at page)) (136 + y)
    → all ≡ rows ++ replicate (176 * 264) 0 → HoldsRows all (in_margins (dark_at page)) (page.height + 312)
held-all page rows all y whole end holds is =
    let Hold : List ℕ → Type 0 = λ xs. HoldsRows xs (in_margins (dark_at page)) (page.height + 312) in
    let many : 136 + y + 176 ≡ page.height + 312 = omega (arith, end) in
    subst Hold (sym is)
    (rw many at (holds-light rows (in_margins (dark_at page)) (136 + y) 176 holds (λ x z h. light-below page x z whole (omega (arith, h, end)))))
