-- Laws of packed rows that are made tile by tile.
use Rattle.std.proofs.Common.{◌≡◌, ◌+◌, ◌-◌, ◌*◌, ◌/◌, ◌<◌, ◌≤◌, ℕ, zero, suc, min, Bool, false, List, [], ◌∷◌, ◌++◌, map, length, take, drop, get_or, nat_lt, replicate, ◌^◌, refl, ap, sym, ◌∙◌, arith, inl, inr, append_assoc, append-nil, ap₂, pos, length-take, length-drop, length-append}
use Rattle.std.specs.List.{range_with_len, flat_map}
use Rattle.std.proofs.lemmas.Bool.{cases_lt, lt-ltb, ltb-true}
use Rattle.std.proofs.lemmas.List.{get_or_past, get_or_append_left, get_or-append_right, get_or-replicate, length-replicate, map-append, get_or-take, get_or-drop, get_or-map, flat_map_more, take_more}
use Rattle.std.proofs.lemmas.List.FromFn.{take-map-range_with_len, map-range_with_len_more, length-map-range_with_len, get_or-map-range_with_len}
use Rattle.vx_base.proofs.Booleans.{same-bool}
use Rattle.vx_plane.proofs.Pages.{map-same, row_at, length-rows_of}
use Rattle.vx_bits.specs.Packed.{packed_byte, packed_row, stride_of}
use Rattle.vx_gray.specs.Gray.{Gray, bits_of, dark_in, top_of, value_at}
use Rattle.vx_gray.specs.Near.{AreHalves}
use Rattle.vx_gray.specs.Packing.{below, row_below}
use Rattle.vx_gray.proofs.Tops.{row_value}

-- bytes of rows with the same pixels in eight places
pub packed_byte-same : (one other : List Bool) (k m : ℕ) → ((i : ℕ) → i < 8 → get_or one (8 * k + i) false ≡ get_or other (8 * m + i) false)
    → packed_byte one k ≡ packed_byte other m
packed_byte-same one other k m same =
    let first : get_or one (8 * k) false ≡ get_or other (8 * m) false = ap (λ n. get_or one n false) (omega arith)
    ∙ (same 0 (omega arith) ∙ ap (λ n. get_or other n false) (omega arith)) in
    rw (
      first,
      same 1 (omega arith),
      same 2 (omega arith),
      same 3 (omega arith),
      same 4 (omega arith),
      same 5 (omega arith),
      same 6
          (omega arith),
      same 7 (omega arith),
    ) refl

-- a part of a row, in its first n places
pub part_at : {X : Type 0} (n start : ℕ) (row : List X) (i : ℕ) (d : X) → i < n → get_or (take n (drop start row)) i d ≡ get_or row (start + i) d
part_at n start row i d h = get_or-take n (drop start row) i d h ∙ get_or-drop start row i d

pub length-below : (half : ℕ) (pixels : List ℕ) → length (below half pixels) ≡ length pixels
length-below half [] = refl
length-below half (value ∷ rest) = ap (λ n. suc n) (length-below half rest)

-- what is behind a row of pixels is light
light_behind : (pixels : List ℕ) (half m : ℕ) → half < 2 ^ 8 → length pixels ≤ m
    → get_or (below half (pixels ++ drop (length pixels) (replicate 64 255))) m false ≡ false
light_behind pixels half m byte behind =
    let all : List ℕ = replicate 64 255 in
    let rest : List ℕ = drop (length pixels) all in
    let light : nat_lt 255 half ≡ false = same-bool (nat_lt 255 half) false (λ e. absurd (omega (arith, ltb-true 255 half e))) (λ e. absurd cc) in
    elim (cases_lt m (length (pixels ++ rest))) [
      | inl h ↦
          get_or-map (λ value. nat_lt value half) (pixels ++ rest) m 0 false h
          ∙ (ap (λ value. nat_lt value half)
          (get_or-append_right pixels rest (length pixels) m 0 refl behind
          ∙ (get_or-drop (length pixels) all (m - length pixels) 0
          ∙ get_or-replicate 64 (length pixels + (m - length pixels)) 255 0
          (omega (arith, length-append pixels rest, length-drop (length pixels) all, length-replicate {A = ℕ} 64 255))))
          ∙ light)
      | inr h ↦ get_or_past (below half (pixels ++ rest)) m false (omega (arith, length-below half (pixels ++ rest)))
    ]

-- a pixel of a row that is filled up with light ones
filled_pixel : (pixels : List ℕ) (half m : ℕ) → half < 2 ^ 8
    → get_or (below half (pixels ++ drop (length pixels) (replicate 64 255))) m false ≡ get_or (below half pixels) m false
filled_pixel pixels half m byte = elim (cases_lt m (length pixels)) [
  | inl h ↦
      ap (λ row. get_or row m false) (map-append (λ value. nat_lt value half) pixels (drop (length pixels) (replicate 64 255)))
      ∙ get_or_append_left (below half pixels) (below half (drop (length pixels) (replicate 64 255))) false m (omega (arith, length-below half pixels))
  | inr h ↦
      light_behind pixels half m byte h ∙ sym (get_or_past (below half pixels) m false (omega (arith, length-below half pixels)))
]

-- the bytes of a tile's row that is filled up with light pixels
pub filled_row : (pixels : List ℕ) (half : ℕ) → half < 2 ^ 8 → length pixels ≤ 64
    → take (stride_of (length pixels)) (packed_row (below half (pixels ++ drop (length pixels) (replicate 64 255)))) ≡ packed_row (below half pixels)
unfolding packed_row
filled_row pixels half byte most =
    let rest : List ℕ = drop (length pixels) (replicate 64 255) in
    let row : List Bool = below half (pixels ++ rest) in
    let within : stride_of (length pixels) ≤ stride_of (length row) = omega (arith, length-below half (pixels ++ rest), length-append pixels rest) in
    let long : stride_of (length pixels) ≡ stride_of (length (below half pixels)) = ap stride_of (sym (length-below half pixels)) in
    take-map-range_with_len (packed_byte row) 0 (stride_of (length row)) (stride_of (length pixels)) within
    ∙ (map-same (packed_byte row) (packed_byte (below half pixels)) (stride_of (length pixels))
    (λ k h. packed_byte-same row (below half pixels) k k (λ i l. filled_pixel pixels half (8 * k + i) byte))
    ∙ ap (λ n. map (packed_byte (below half pixels)) (range_with_len 0 n)) long)

-- numbers of a range and those behind it
pub map-range-add : (f : ℕ → ℕ) (m n : ℕ) → map f (range_with_len 0 (m + n)) ≡ map f (range_with_len 0 m) ++ map (λ k. f (m + k)) (range_with_len 0 n)
map-range-add f m zero = ap (λ k. map f (range_with_len 0 k)) (omega arith) ∙ sym (append-nil (map f (range_with_len 0 m)))
map-range-add f m (suc n) =
    let last : m + suc n ≡ m + n + 1 = omega arith in
    let one : suc n ≡ n + 1 = omega arith in
    ap (λ k. map f (range_with_len 0 k)) last
    ∙ (map-range_with_len_more f 0 (m + n) (m + n) (omega arith)
    ∙ (ap (λ s. s ++ f (m + n) ∷ []) (map-range-add f m n)
    ∙ (append_assoc (map f (range_with_len 0 m)) (map (λ k. f (m + k)) (range_with_len 0 n)) (f (m + n) ∷ [])
    ∙ ap (λ s. map f (range_with_len 0 m) ++ s)
    (sym (map-range_with_len_more (λ k. f (m + k)) 0 n n (omega arith)) ∙ ap (λ j. map (λ k. f (m + k)) (range_with_len 0 j)) (sym one)))))

pub length-row_below : (halves pixels : List ℕ) → length (row_below halves pixels) ≡ length pixels
length-row_below halves pixels = length-map-range_with_len (λ u. nat_lt (get_or pixels u 0) (get_or halves (u / 64) 0)) 0 (length pixels)

-- a pixel of a tile is below the tile's number
tile_pixel : (halves pixels : List ℕ) (across end i : ℕ) → end ≡ min (64 * (across + 1)) (length pixels) → i < 64
    → get_or (below (get_or halves across 0) (take (end - 64 * across) (drop (64 * across) pixels))) i false ≡ get_or (row_below halves pixels)
    (64 * across + i) false
tile_pixel halves pixels across end i ends h =
    let part : List ℕ = take (end - 64 * across) (drop (64 * across) pixels) in
    let long : length (below (get_or halves across 0) part) ≡ end - 64 * across = omega
    (arith, length-below (get_or halves across 0) part, length-take (end - 64 * across) (drop (64 * across) pixels), length-drop (64 * across) pixels) in
    elim (cases_lt i (end - 64 * across)) [
      | inl l ↦
          get_or-map (λ value. nat_lt value (get_or halves across 0)) part i 0 false (omega (arith, length-below (get_or halves across 0) part))
          ∙ (ap (λ value. nat_lt value (get_or halves across 0)) (part_at (end - 64 * across) (64 * across) pixels i 0 l)
          ∙ (ap (λ a. nat_lt (get_or pixels (64 * across + i) 0) (get_or halves a 0)) (omega arith)
          ∙ sym (get_or-map-range_with_len (λ u. nat_lt (get_or pixels u 0) (get_or halves (u / 64) 0)) 0 (length pixels) (64 * across + i)
          (64 * across + i) false (omega arith) (omega arith))))
      | inr l ↦
          get_or_past (below (get_or halves across 0) part) i false (omega arith)
          ∙ sym (get_or_past (row_below halves pixels) (64 * across + i) false (omega (arith, length-row_below halves pixels)))
    ]

-- the bytes of a tile's row follow those of the tiles before it
pub tile_more : (front before after halves pixels : List ℕ) (across end half : ℕ) → half ≡ get_or halves across 0
    → end ≡ min (64 * (across + 1)) (length pixels) → 64 * across ≤ end → before ≡ front ++ map (packed_byte (row_below halves pixels))
    (range_with_len 0 (min (8 * across) (stride_of (length pixels)))) → after ≡ before ++ packed_row
    (below half (take (end - 64 * across) (drop (64 * across) pixels))) → after ≡ front ++ map (packed_byte (row_below halves pixels))
    (range_with_len 0 (min (8 * (across + 1)) (stride_of (length pixels))))
unfolding packed_row
tile_more front before after halves pixels across end half is ends order is_before is_after =
    let part : List ℕ = take (end - 64 * across) (drop (64 * across) pixels) in
    let row : List Bool = row_below halves pixels in
    let tile : List Bool = below (get_or halves across 0) part in
    let long : length tile ≡ end - 64 * across = omega
    (arith, length-below (get_or halves across 0) part, length-take (end - 64 * across) (drop (64 * across) pixels), length-drop (64 * across) pixels) in
    let so_far : min (8 * across) (stride_of (length pixels)) ≡ 8 * across = omega arith in
    let whole : 8 * across + stride_of (length tile) ≡ min (8 * (across + 1)) (stride_of (length pixels)) = omega arith in
    let bytes : packed_row tile ≡ map (λ k. packed_byte row (8 * across + k)) (range_with_len 0 (stride_of (length tile))) =
    map-same (packed_byte tile) (λ k. packed_byte row (8 * across + k)) (stride_of (length tile))
    (λ k h. packed_byte-same tile row k (8 * across + k)
    (λ i l.
    tile_pixel halves pixels across end (8 * k + i) ends (omega arith)
    ∙ ap (λ n. get_or row n false) (omega arith))) in
    is_after
    ∙ (ap (λ h. before ++ packed_row (below h part)) is
    ∙ (ap (λ s. s ++ packed_row tile) (is_before ∙ ap (λ n. front ++ map (packed_byte row) (range_with_len 0 n)) so_far)
    ∙ (append_assoc front (map (packed_byte row) (range_with_len 0 (8 * across))) (packed_row tile)
    ∙ ap (λ s. front ++ s)
    (ap (λ s. map (packed_byte row) (range_with_len 0 (8 * across)) ++ s) bytes
    ∙ (sym (map-range-add (packed_byte row) (8 * across) (stride_of (length tile)))
    ∙ ap (λ n. map (packed_byte row) (range_with_len 0 n)) whole)))))

-- less than the half, rounded up, is twice less than the whole
half_test : (value top : ℕ) → nat_lt value ((top + 1) / 2) ≡ nat_lt (2 * value) top
half_test value top =
    same-bool (nat_lt value ((top + 1) / 2)) (nat_lt (2 * value) top)
    (λ e. let l : value < (top + 1) / 2 = ltb-true value ((top + 1) / 2) e in lt-ltb (2 * value) top (omega arith))
    (λ e. let l : 2 * value < top = ltb-true (2 * value) top e in lt-ltb value ((top + 1) / 2) (omega arith))

-- a row of the page's bits
pub row_of_bits : (gray : Gray) (down v : ℕ) (halves row : List ℕ) → AreHalves gray down halves → v / 64 ≡ down → v < gray.height
    → length row ≡ gray.width → row ≡ take gray.width (drop (v * gray.width) gray.values) → row_below halves row ≡ get_or (bits_of gray).rows v []
row_of_bits gray down v halves row are tile inside long is =
    ap (λ n. map (λ u. nat_lt (get_or row u 0) (get_or halves (u / 64) 0)) (range_with_len 0 n)) long
    ∙ (map-same (λ u. nat_lt (get_or row u 0) (get_or halves (u / 64) 0)) (λ u. dark_in gray (pos u) (pos v)) gray.width
    (λ u h.
    let value : get_or row u 0 ≡ value_at gray u v = ap (λ r. get_or r u 0) is ∙ row_value gray v u h inside in
    let half : get_or halves (u / 64) 0 ≡ (top_of gray (u / 64) (v / 64) + 1) / 2 =
    are.values (u / 64) (omega (arith, are.size)) ∙ ap (λ t. (top_of gray (u / 64) t + 1) / 2) (sym tile) in
    ap₂ nat_lt value half ∙ half_test (value_at gray u v) (top_of gray (u / 64) (v / 64)))
    ∙ sym (row_at gray.width gray.height v (dark_in gray) inside))

-- one row more
pub row_more : (before after : List ℕ) (rows : List (List Bool)) (row : List Bool) (v : ℕ) → v < length rows
    → before ≡ flat_map packed_row (take v rows) → after ≡ before ++ packed_row row → row ≡ get_or rows v [] → after ≡ flat_map packed_row (take (v + 1) rows)
row_more before after rows row v inside is_before is_after is =
    is_after
    ∙ (ap (λ s. s ++ packed_row row) is_before
    ∙ (ap (λ r. flat_map packed_row (take v rows) ++ packed_row r) is
    ∙ (flat_map_more packed_row [] (take v rows) (get_or rows v [])
    ∙ ap (flat_map packed_row) (sym (take_more rows v [] inside)))))

-- a page of bits has its height's number of rows
pub length-bits : (gray : Gray) → length (bits_of gray).rows ≡ gray.height
length-bits gray = length-rows_of gray.width gray.height (dark_in gray)
