-- Laws of packed pixels.
use Rattle.std.proofs.Common.{◌≡◌, ℕ, zero, suc, ◌+◌, ◌-◌, ◌*◌, ◌/◌, ◌%◌, ◌<◌, ◌≤◌, ◌≢◌, ◌⊎◌, ◌==◌, List, [], map, length, get_or, set, take, drop, bit_and, ◌^◌, ◌++◌, ◌∷◌, div-mul-le_self, Bool, true, false, ℤ, pos, negsuc, ◌≤ℤ◌, nat_abs, refl, ap, ap₂, sym, subst, ◌∙◌, arith, get_or-set_same, get_or-set_other, inl, inr}
use Rattle.std.specs.Int.{bit_at}
use Rattle.std.specs.List.{range_with_len}
use Rattle.std.proofs.lemmas.Bool.{cases_eq, cases_lt}
use Rattle.std.proofs.lemmas.Int.{ints}
use Rattle.std.proofs.lemmas.List.{get_or-take, get_or-drop, get_or_past, length-take-le}
use Rattle.std.proofs.lemmas.List.FromFn.{length-map-range_with_len, get_or-map-range_with_len, map-range_with_len_more, fill_by_all}
use Rattle.std.proofs.lemmas.Nat.{same_from_place}
use Rattle.std.proofs.lemmas.Nat.Bits.{bit_at-lt, bit_at_and, bit_at_mask_inside, bit_at_mask_below, and_high_mask, ones_shl}
use Rattle.vx_plane.specs.Plane.{Page, page_of, dark_at, with_pixel}
use Rattle.vx_plane.specs.Count.{one_if}
use Rattle.vx_plane.proofs.Counts.{one_if-below}
use Rattle.vx_plane.proofs.Pages.{map-same, row_at, page_of-same, page_of-dark_at, dark_at-inside, dark_at-beside, dark_at-under, with_pixel-here, with_pixel-elsewhere}
use Rattle.vx_bits.specs.Packed.{stride_of, packed_pixel, packed_pixels, packed_page, unpacked, packed_byte, packed_row}

test_of : (dark : Bool) (n : ℕ) → n ≡ one_if dark → (n == 1) ≡ dark
test_of true n h = rw h refl
test_of false n h = rw h refl

-- a byte that was written makes its pixel what its bit is
pub written_same : (bytes : List ℕ) (start x byte : ℕ) (dark : Bool) → start + x / 8 < length bytes → bit_at byte (7 - x % 8) ≡ one_if dark → packed_pixel (set bytes (start + x / 8) byte) start x ≡ dark
written_same bytes start x byte dark h e =
    test_of dark _ (ap (λ b. bit_at b (7 - x % 8)) (get_or-set_same bytes (start + x / 8) byte 0 h) ∙ e)

-- a byte that was written leaves every other pixel
pub written_other : (bytes : List ℕ) (start x byte : ℕ) → start + x / 8 < length bytes → ((i : ℕ) → i < 8 → i ≢ 7 - x % 8 → bit_at byte i ≡ bit_at (get_or bytes (start + x / 8) 0) i) → (other y : ℕ) → (other + y / 8 ≡ start + x / 8 → y % 8 ≡ x % 8 → ⊥) → packed_pixel (set bytes (start + x / 8) byte) other y ≡ packed_pixel bytes other y
written_other bytes start x byte h same other y apart =
    elim (cases_eq (other + y / 8) (start + x / 8)) [
      | inl e ↦
          let lower : 7 - y % 8 < 8 = omega arith in
          let ne : 7 - y % 8 ≢ 7 - x % 8 = λ f. apart e (omega arith) in
          ap (λ (n : ℕ). n == 1) (
          ap (λ i. bit_at (get_or (set bytes (start + x / 8) byte) i 0) (7 - y % 8)) e
          ∙ ap (λ b. bit_at b (7 - y % 8)) (get_or-set_same bytes (start + x / 8) byte 0 h)
          ∙ same (7 - y % 8) lower ne
          ∙ ap (λ i. bit_at (get_or bytes i 0) (7 - y % 8)) (sym e))
      | inr ne ↦ ap (λ b. bit_at b (7 - y % 8) == 1) (get_or-set_other bytes (start + x / 8) (other + y / 8) byte 0 ne)
    ]

-- a page of packed rows is made of its dark places
pub packed-whole : (width height : ℕ) (bytes : List ℕ) (page : Page) → packed_page width height bytes ≡ page → page ≡ page_of page.width page.height (dark_at page)
packed-whole width height bytes page e =
    subst (λ (p : Page). p ≡ page_of p.width p.height (dark_at p)) e (sym (page_of-dark_at width height (packed_pixels width bytes)))

-- where a pixel's byte stands tells its place
place_of : (size x y u v : ℕ) → x / 8 < size → u / 8 < size → v * size + u / 8 ≡ y * size + x / 8 → u % 8 ≡ x % 8 → (u ≡ x) × (v ≡ y)
place_of size x y u v l m e f =
    let place : (v ≡ y) × (u / 8 ≡ x / 8) = same_from_place v (u / 8) y (x / 8) size m l e in
    (omega (arith, place.1), place.0)

-- writing a pixel of packed rows puts it on their page
pub packed-put : (width height x y : ℕ) (before after : List ℕ) (dark : Bool) (page : Page) → packed_page width height before ≡ page → x < width → y < height → packed_pixel after (y * stride_of width) x ≡ dark → ((other u : ℕ) → (other + u / 8 ≡ y * stride_of width + x / 8 → u % 8 ≡ x % 8 → ⊥) → packed_pixel after other u ≡ packed_pixel before other u) → packed_page width height after ≡ page_of page.width page.height (with_pixel (dark_at page) (pos x) (pos y) dark)
packed-put width height x y before after dark page e l h same others =
    subst (λ (p : Page). packed_page width height after ≡ page_of p.width p.height (with_pixel (dark_at p) (pos x) (pos y) dark)) e
    (page_of-same width height _ _ (λ u v m g.
    let old : dark_at (packed_page width height before) (pos u) (pos v) ≡ packed_pixel before (v * stride_of width) u = dark_at-inside width height u v (packed_pixels width before) m g in
    elim (cases_eq u x) [
      | inl a ↦ elim (cases_eq v y) [
        | inl b ↦ (ap₂ (λ i j. packed_pixel after (j * stride_of width) i) a b ∙ same) ∙ sym (ap₂ (λ i j. with_pixel (dark_at (packed_page width height before)) (pos x) (pos y) dark (pos i) (pos j)) a b ∙ with_pixel-here (dark_at (packed_page width height before)) x y dark)
        | inr b ↦ others (v * stride_of width) u (λ p q. b (place_of (stride_of width) x y u v (omega arith) (omega arith) p q).1) ∙ sym old ∙ sym (with_pixel-elsewhere (dark_at (packed_page width height before)) x y u v dark (λ p q. b q))
      ]
      | inr a ↦ others (v * stride_of width) u (λ p q. a (place_of (stride_of width) x y u v (omega arith) (omega arith) p q).0) ∙ sym old ∙ sym (with_pixel-elsewhere (dark_at (packed_page width height before)) x y u v dark (λ p q. a p))
    ]))

-- the same, by what the code knows: the size of a row, and the rows before and after
pub packed-put_at : (width height x y size : ℕ) (before rows after whole : List ℕ) (dark : Bool) (page : Page) → size ≡ stride_of width → rows ≡ before → whole ≡ after → packed_page width height before ≡ page → x < page.width → y < page.height → packed_pixel after (y * size) x ≡ dark → ((other u : ℕ) → (other + u / 8 ≡ y * size + x / 8 → u % 8 ≡ x % 8 → ⊥) → packed_pixel after other u ≡ packed_pixel rows other u) → packed_page width height whole ≡ page_of page.width page.height (with_pixel (dark_at page) (pos x) (pos y) dark)
packed-put_at width height x y size before rows after whole dark page sized old new e l h same others =
    let across : width ≡ page.width = ap (λ (p : Page). p.width) e in
    let down : height ≡ page.height = ap (λ (p : Page). p.height) e in
    ap (packed_page width height) new
    ∙ packed-put width height x y before after dark page e (omega arith) (omega arith) (rw sized at same) (rw (sized, old) at others)

-- a place beside or under packed rows is light
pub packed-outside : (width height : ℕ) (bytes : List ℕ) (page : Page) (u v : ℤ) → packed_page width height bytes ≡ page → pos 0 ≤ℤ u → pos 0 ≤ℤ v → (width ≤ nat_abs u) ⊎ (height ≤ nat_abs v) → dark_at page u v ≡ false
packed-outside width height bytes page (pos x) (pos y) e a b h =
    subst (λ (p : Page). dark_at p (pos x) (pos y) ≡ false) e
    (elim h [ inl l ↦ dark_at-beside width height x y (packed_pixels width bytes) l | inr m ↦ dark_at-under width height x y (packed_pixels width bytes) m ])
packed-outside width height bytes page (pos x) (negsuc y) e a b h = absurd (omega (arith, ints))
packed-outside width height bytes page (negsuc x) v e a b h = absurd (omega (arith, ints))

-- a place inside packed rows is dark where its bit is set
pub packed-inside : (width height : ℕ) (bytes : List ℕ) (page : Page) (u v : ℤ) → packed_page width height bytes ≡ page → pos 0 ≤ℤ u → pos 0 ≤ℤ v → nat_abs u < width → nat_abs v < height → dark_at page u v ≡ packed_pixel bytes (nat_abs v * stride_of width) (nat_abs u)
packed-inside width height bytes page (pos x) (pos y) e a b l h =
    subst (λ (p : Page). dark_at p (pos x) (pos y) ≡ packed_pixel bytes (y * stride_of width) x) e
    (dark_at-inside width height x y (packed_pixels width bytes) l h)
packed-inside width height bytes page (pos x) (negsuc y) e a b l h = absurd (omega (arith, ints))
packed-inside width height bytes page (negsuc x) v e a b l h = absurd (omega (arith, ints))

-- the bytes of one row hold its pixels
pub packed-row : (width height y n : ℕ) (bytes : List ℕ) (page : Page) → packed_page width height bytes ≡ page → y < height → n ≡ stride_of width → unpacked width (take n (drop (y * stride_of width) bytes)) ≡ get_or page.rows y []
unfolding unpacked
packed-row width height y n bytes page e h f =
    subst (λ (p : Page). map (λ x. packed_pixel (take n (drop (y * stride_of width) bytes)) 0 x) (range_with_len 0 width) ≡ get_or p.rows y []) e
    (map-same _ _ width (λ x l.
    let within : x / 8 < n = omega arith in
    let zero_on : 0 + x / 8 ≡ x / 8 = omega arith in
    ap (λ b. bit_at b (7 - x % 8) == 1) (
    ap (λ i. get_or (take n (drop (y * stride_of width) bytes)) i 0) zero_on
    ∙ get_or-take n (drop (y * stride_of width) bytes) (x / 8) 0 within
    ∙ get_or-drop (y * stride_of width) bytes (x / 8) 0))
    ∙ sym (row_at width height y (packed_pixels width bytes) h))

-- the same, by what the code knows
pub packed-row_at : (width height y size n : ℕ) (bytes : List ℕ) (page : Page) → packed_page width height bytes ≡ page → y < page.height → size ≡ stride_of width → n ≡ size → unpacked page.width (take n (drop (y * size) bytes)) ≡ get_or page.rows y []
packed-row_at width height y size n bytes page e h sized more =
    let across : page.width ≡ width = sym (ap (λ (p : Page). p.width) e) in
    let down : height ≡ page.height = ap (λ (p : Page). p.height) e in
    rw (across, sized) (packed-row width height y n bytes page e (omega arith) (more ∙ sized))

two_cases : (b : ℕ) → b < 2 → one_if (b == 1) ≡ b
two_cases zero h = refl
two_cases (suc zero) h = refl
two_cases (suc (suc b)) h = absurd (omega arith)

-- a byte is the sum of its bits
byte-bits : (n : ℕ) → n < 256 → 128 * bit_at n 7 + 64 * bit_at n 6 + 32 * bit_at n 5 + 16 * bit_at n 4 + 8 * bit_at n 3 + 4 * bit_at n 2 + 2 * bit_at n 1 + bit_at n 0 ≡ n
byte-bits n h = omega arith

-- a byte of a packed row, by the bits of any number that has its pixels
packed_byte-is : (row : List Bool) (k n : ℕ) → n < 256 → ((i : ℕ) → i < 8 → one_if (get_or row (8 * k + i) false) ≡ bit_at n (7 - i)) → packed_byte row k ≡ n
packed_byte-is row k n h bits =
    let zero_on : 8 * k + 0 ≡ 8 * k = omega arith in
    let first : one_if (get_or row (8 * k) false) ≡ bit_at n 7 = ap (λ x. one_if (get_or row x false)) (sym zero_on) ∙ bits 0 (omega arith) in
    omega (arith, byte-bits n h, first, bits 1 (omega arith), bits 2 (omega arith), bits 3 (omega arith), bits 4 (omega arith), bits 5 (omega arith), bits 6 (omega arith), bits 7 (omega arith))

-- the rows of unpacked pixels are as long as asked
pub length-unpacked : (width : ℕ) (bytes : List ℕ) → length (unpacked width bytes) ≡ width
unfolding unpacked
length-unpacked width bytes = length-map-range_with_len _ 0 width

get_or-unpacked : (width x : ℕ) (bytes : List ℕ) → x < width → get_or (unpacked width bytes) x false ≡ packed_pixel bytes 0 x
unfolding unpacked
get_or-unpacked width x bytes h = get_or-map-range_with_len _ 0 width x x false h (omega arith)

-- a pixel of a row is a bit of its byte
row-bit : (width k i : ℕ) (bytes : List ℕ) (row : List Bool) → unpacked width bytes ≡ row → i < 8 → 8 * k + i < width → one_if (get_or row (8 * k + i) false) ≡ bit_at (get_or bytes k 0) (7 - i)
row-bit width k i bytes row e h l =
    let place : 0 + (8 * k + i) / 8 ≡ k = omega arith in
    let bit : 7 - (8 * k + i) % 8 ≡ 7 - i = omega arith in
    ap (λ (r : List Bool). one_if (get_or r (8 * k + i) false)) (sym e)
    ∙ ap one_if (get_or-unpacked width (8 * k + i) bytes l)
    ∙ two_cases (bit_at (get_or bytes (0 + (8 * k + i) / 8) 0) (7 - (8 * k + i) % 8)) (bit_at-lt _ _)
    ∙ ap₂ (λ p q. bit_at (get_or bytes p 0) q) place bit

-- past the row's end no bit is set
row-pad : (width x : ℕ) (bytes : List ℕ) (row : List Bool) → unpacked width bytes ≡ row → width ≤ x → one_if (get_or row x false) ≡ 0
row-pad width x bytes row e h =
    ap one_if (get_or_past row x false (omega (arith, length-unpacked width bytes, ap length e)))

-- a byte that has only pixels of the row is as it was
whole-byte : (width k : ℕ) (bytes : List ℕ) (row : List Bool) → unpacked width bytes ≡ row → get_or bytes k 0 < 256 → 8 * k + 8 ≤ width → packed_byte row k ≡ get_or bytes k 0
whole-byte width k bytes row e small h = packed_byte-is row k (get_or bytes k 0) small (λ i l. row-bit width k i bytes row e l (omega arith))

bit-kept : (n pad i : ℕ) → pad ≤ i → i < 8 → bit_at (bit_and n (2 ^ 8 - 2 ^ pad)) i ≡ bit_at n i
bit-kept n pad i l h =
    let one : bit_at (2 ^ 8 - 2 ^ pad) i ≡ 1 = bit_at_mask_inside pad 8 i l h in
    omega (arith, bit_at_and n (2 ^ 8 - 2 ^ pad) i, bit_at-lt n i)

bit-cleared : (n pad i : ℕ) → i < pad → bit_at (bit_and n (2 ^ 8 - 2 ^ pad)) i ≡ 0
bit-cleared n pad i l =
    let none : bit_at (2 ^ 8 - 2 ^ pad) i ≡ 0 = bit_at_mask_below pad 8 i l in
    omega (arith, bit_at_and n (2 ^ 8 - 2 ^ pad) i)

-- the row's last byte is as it was but for the bits that pad it
last-byte : (width k pad : ℕ) (bytes : List ℕ) (row : List Bool) → unpacked width bytes ≡ row → get_or bytes k 0 < 256 → pad < 8 → width + pad ≡ 8 * k + 8 → packed_byte row k ≡ bit_and (get_or bytes k 0) (2 ^ 8 - 2 ^ pad)
last-byte width k pad bytes row e small l h =
    let less : get_or bytes k 0 / 2 ^ pad * 2 ^ pad ≤ get_or bytes k 0 = div-mul-le_self (get_or bytes k 0) (2 ^ pad) in
    packed_byte-is row k (bit_and (get_or bytes k 0) (2 ^ 8 - 2 ^ pad))
    (omega (arith, and_high_mask 8 pad (omega arith) (get_or bytes k 0) small))
    (λ i m.
    elim (cases_lt (8 * k + i) width) [
      | inl inside ↦ row-bit width k i bytes row e m inside ∙ sym (bit-kept (get_or bytes k 0) pad (7 - i) (omega arith) (omega arith))
      | inr past ↦ row-pad width (8 * k + i) bytes row e past ∙ sym (bit-cleared (get_or bytes k 0) pad (7 - i) (omega arith))
    ])

-- a row whose width is a multiple of 8 is packed as it stands
pub packed_row-whole : (width : ℕ) (bytes : List ℕ) (row : List Bool) → unpacked width bytes ≡ row → length bytes ≡ stride_of width → width % 8 ≡ 0 → ((i : ℕ) → get_or bytes i 0 < 256) → packed_row row ≡ bytes
unfolding packed_row
packed_row-whole width bytes row e sized even small =
    let long : length row ≡ width = sym (ap length e) ∙ length-unpacked width bytes in
    let size : stride_of (length row) ≡ length bytes = omega arith in
    sym (fill_by_all (packed_byte row) bytes (stride_of (length row)) 0 (sym size) (λ k h. sym (whole-byte width k bytes row e (small k) (omega arith))))

-- any other row is packed as it stands but for its last byte, whose padding is cleared
pub packed_row-padded : (width pad : ℕ) (bytes : List ℕ) (row : List Bool) → unpacked width bytes ≡ row → length bytes ≡ stride_of width → 0 < width → pad < 8 → (width + pad) % 8 ≡ 0 → ((i : ℕ) → get_or bytes i 0 < 256) → packed_row row ≡ take (length bytes - 1) bytes ++ bit_and (get_or bytes (length bytes - 1) 0) (255 * 2 ^ pad % 256) ∷ []
unfolding packed_row
packed_row-padded width pad bytes row e sized some l even small =
    let k : ℕ = length bytes - 1 in
    let long : length row ≡ width = sym (ap length e) ∙ length-unpacked width bytes in
    let size : stride_of (length row) ≡ k + 1 = omega arith in
    let front_long : length (take k bytes) ≡ k = length-take-le k bytes (omega arith) in
    let front : take k bytes ≡ map (packed_byte row) (range_with_len 0 k) =
    fill_by_all (packed_byte row) (take k bytes) k 0 front_long
    (λ j h. get_or-take k bytes j 0 h ∙ sym (whole-byte width j bytes row e (small j) (omega arith))) in
    let last : packed_byte row k ≡ bit_and (get_or bytes k 0) (255 * 2 ^ pad % 256) =
    last-byte width k pad bytes row e (small k) l (omega arith) ∙ ap (bit_and (get_or bytes k 0)) (sym (ones_shl 8 pad (omega arith))) in
    ap (λ n. map (packed_byte row) (range_with_len 0 n)) size
    ∙ map-range_with_len_more (packed_byte row) 0 k k (omega arith)
    ∙ ap₂ (λ xs x. xs ++ x ∷ []) (sym front) last

-- the bits of a number that is a sum of eight bits
sum-bits : (a b c d e f g h i : ℕ) → a ≤ 1 → b ≤ 1 → c ≤ 1 → d ≤ 1 → e ≤ 1 → f ≤ 1 → g ≤ 1 → h ≤ 1 → i < 8 → bit_at (128 * a + 64 * b + 32 * c + 16 * d + 8 * e + 4 * f + 2 * g + h) (7 - i) ≡ get_or (a ∷ b ∷ c ∷ d ∷ e ∷ f ∷ g ∷ h ∷ []) i 0
sum-bits a b c d e f g h zero la lb lc ld le lf lg lh li = omega arith
sum-bits a b c d e f g h (suc zero) la lb lc ld le lf lg lh li = omega arith
sum-bits a b c d e f g h (suc (suc zero)) la lb lc ld le lf lg lh li = omega arith
sum-bits a b c d e f g h (suc (suc (suc zero))) la lb lc ld le lf lg lh li = omega arith
sum-bits a b c d e f g h (suc (suc (suc (suc zero)))) la lb lc ld le lf lg lh li = omega arith
sum-bits a b c d e f g h (suc (suc (suc (suc (suc zero))))) la lb lc ld le lf lg lh li = omega arith
sum-bits a b c d e f g h (suc (suc (suc (suc (suc (suc zero)))))) la lb lc ld le lf lg lh li = omega arith
sum-bits a b c d e f g h (suc (suc (suc (suc (suc (suc (suc zero))))))) la lb lc ld le lf lg lh li = omega arith
sum-bits a b c d e f g h (suc (suc (suc (suc (suc (suc (suc (suc i)))))))) la lb lc ld le lf lg lh li = absurd (omega arith)

one_of_eight : (row : List Bool) (k i : ℕ) → i < 8 → get_or (one_if (get_or row (8 * k) false) ∷ one_if (get_or row (8 * k + 1) false) ∷ one_if (get_or row (8 * k + 2) false) ∷ one_if (get_or row (8 * k + 3) false) ∷ one_if (get_or row (8 * k + 4) false) ∷ one_if (get_or row (8 * k + 5) false) ∷ one_if (get_or row (8 * k + 6) false) ∷ one_if (get_or row (8 * k + 7) false) ∷ []) i 0 ≡ one_if (get_or row (8 * k + i) false)
one_of_eight row k zero h = ap (λ n. one_if (get_or row n false)) (omega arith)
one_of_eight row k (suc zero) h = refl
one_of_eight row k (suc (suc zero)) h = refl
one_of_eight row k (suc (suc (suc zero))) h = refl
one_of_eight row k (suc (suc (suc (suc zero)))) h = refl
one_of_eight row k (suc (suc (suc (suc (suc zero))))) h = refl
one_of_eight row k (suc (suc (suc (suc (suc (suc zero)))))) h = refl
one_of_eight row k (suc (suc (suc (suc (suc (suc (suc zero))))))) h = refl
one_of_eight row k (suc (suc (suc (suc (suc (suc (suc (suc i)))))))) h = absurd (omega arith)

-- a bit of a packed byte is a pixel of the row
pub packed_byte-bit : (row : List Bool) (k i : ℕ) → i < 8 → bit_at (packed_byte row k) (7 - i) ≡ one_if (get_or row (8 * k + i) false)
packed_byte-bit row k i h =
    sum-bits _ _ _ _ _ _ _ _ i (one_if-below _) (one_if-below _) (one_if-below _) (one_if-below _) (one_if-below _) (one_if-below _) (one_if-below _) (one_if-below _) h
    ∙ one_of_eight row k i h

is_one : (b : Bool) → (one_if b == 1) ≡ b
is_one true = refl
is_one false = refl

-- a packed row has its stride's number of bytes, and holds the row
pub length-packed_row : (row : List Bool) → length (packed_row row) ≡ stride_of (length row)
unfolding packed_row
length-packed_row row = length-map-range_with_len _ 0 (stride_of (length row))

pub packed_row-pixel : (row : List Bool) (x : ℕ) → x < length row → packed_pixel (packed_row row) 0 x ≡ get_or row x false
unfolding packed_row
packed_row-pixel row x h =
    let byte : get_or (map (packed_byte row) (range_with_len 0 (stride_of (length row)))) (0 + x / 8) 0 ≡ packed_byte row (x / 8) =
    get_or-map-range_with_len _ 0 (stride_of (length row)) (0 + x / 8) (x / 8) 0 (omega arith) (omega arith) in
    let place : 8 * (x / 8) + x % 8 ≡ x = omega arith in
    ap (λ (n : ℕ). n == 1) (ap (λ b. bit_at b (7 - x % 8)) byte ∙ packed_byte-bit row (x / 8) (x % 8) (omega arith))
    ∙ is_one (get_or row (8 * (x / 8) + x % 8) false)
    ∙ ap (λ n. get_or row n false) place
