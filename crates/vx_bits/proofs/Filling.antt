-- Laws of packed pixels that are made dark eight at a time.
use Rattle.std.proofs.Common.{◌≡◌, ◌≢◌, ◌⊎◌, ℕ, ◌+◌, ◌-◌, ◌*◌, ◌/◌, ◌%◌, ◌^◌, ◌<◌, ◌≤◌, ◌==◌, ◌&&◌, ◌||◌, min, max, nat_le, nat_lt, Bool, true, false, List, length, get_or, set, bit_and, bit_or, ap, ap₂, sym, subst, ◌∙◌, refl, inl, inr, pos, arith, get_or-set_same, get_or-set_other, length-set, pow_mono, mul-le-mul}
use Rattle.std.specs.Int.{bit_at}
use Rattle.std.proofs.lemmas.Bool.{cases_eq, cases_lt}
use Rattle.std.proofs.lemmas.Int.{ints}
use Rattle.std.proofs.lemmas.Nat.Bits.{bit_at-lt, bit_at_and, bit_at_or, bit_at_mask_inside, bit_at_mask_below, bit_at_mask_above}
use Rattle.vx_plane.specs.Plane.{Page, rectangle, painted}
use Rattle.vx_plane.specs.Count.{one_if}
use Rattle.vx_plane.proofs.Pages.{page_of-same, dark_at-inside}
use Rattle.vx_bits.specs.Packed.{stride_of, packed_pixel, packed_pixels, packed_page}
use Rattle.vx_bits.specs.Runs.{IsMask}

-- a power of 2 up to 256 as a shift of a number of 32 bits
pub shifted : (n : ℕ) → n ≤ 8 → 1 * 2 ^ n % 4294967296 ≡ 2 ^ n
shifted n h = let small : 2 ^ n ≤ 2 ^ 8 = pow_mono h in omega arith

pub mask_order : (first last : ℕ) → first < last → 2 ^ (8 - last) ≤ 2 ^ (8 - first)
mask_order first last h = pow_mono (omega arith)

pub mask_small : (first : ℕ) (n : ℕ) → 0 < n → 2 ^ (8 - first) - n < 2 ^ 8
mask_small first n h = let within : 8 - first ≤ 8 = omega arith in let most : 2 ^ (8 - first) ≤ 2 ^ 8 = pow_mono within in omega arith

-- the bits of a mask
pub mask_bit : (first last i : ℕ) → first < last → last ≤ 8 → i < 8 → bit_at (2 ^ (8 - first) - 2 ^ (8 - last)) (7 - i) ≡ one_if (nat_le first i && nat_lt i last)
mask_bit first last i a b c =
    elim (cases_lt i first) [
      | inl early ↦
          let none : (nat_le first i && nat_lt i last) ≡ false = grind arith in
          bit_at_mask_above (8 - last) (8 - first) (7 - i) (omega arith) ∙ ap one_if (sym none)
      | inr from ↦ elim (cases_lt i last) [
        | inl inside ↦
            let one : (nat_le first i && nat_lt i last) ≡ true = grind arith in
            bit_at_mask_inside (8 - last) (8 - first) (7 - i) (omega arith) (omega arith) ∙ ap one_if (sym one)
        | inr late ↦
            let none : (nat_le first i && nat_lt i last) ≡ false = grind arith in
            bit_at_mask_below (8 - last) (8 - first) (7 - i) (omega arith) ∙ ap one_if (sym none)
      ]
    ]

either : (n : ℕ) (b : Bool) → n < 2 → (max n (one_if b) == 1) ≡ (n == 1) || b
either n true h = grind arith
either n false h = grind arith

-- a byte with the bits of a mask besides
pub masked_here : (rows : List ℕ) (k start x mask : ℕ) (dark : Bool) → k < length rows → start + x / 8 ≡ k → bit_at mask (7 - x % 8) ≡ one_if dark → packed_pixel (set rows k (bit_or (get_or rows k 0) mask)) start x ≡ packed_pixel rows start x || dark
masked_here rows k start x mask dark h e bit =
    ap (λ (n : ℕ). n == 1) (
    ap (λ i. bit_at (get_or (set rows k (bit_or (get_or rows k 0) mask)) i 0) (7 - x % 8)) e
    ∙ ap (λ b. bit_at b (7 - x % 8)) (get_or-set_same rows k (bit_or (get_or rows k 0) mask) 0 h)
    ∙ bit_at_or (get_or rows k 0) mask (7 - x % 8)
    ∙ ap (λ b. max (bit_at (get_or rows k 0) (7 - x % 8)) b) bit)
    ∙ either (bit_at (get_or rows k 0) (7 - x % 8)) dark (bit_at-lt _ _)
    ∙ ap (λ i. (bit_at (get_or rows i 0) (7 - x % 8) == 1) || dark) (sym e)

pub masked_elsewhere : (rows : List ℕ) (k start x byte : ℕ) → start + x / 8 ≢ k → packed_pixel (set rows k byte) start x ≡ packed_pixel rows start x
masked_elsewhere rows k start x byte ne = ap (λ b. bit_at b (7 - x % 8) == 1) (get_or-set_other rows k (start + x / 8) byte 0 ne)

within : (old : Bool) (from to k n i first last : ℕ) → n ≡ 8 * k + i → i < 8 → from / 8 ≤ k → 8 * k < to → first ≡ from - 8 * k → last ≡ min (to - 8 * k) 8 → (old || (nat_le from n && nat_lt n (min to (8 * k)))) || (nat_le first i && nat_lt i last) ≡ old || (nat_le from n && nat_lt n (min to (8 * (k + 1))))
within true from to k n i first last a b c d e f = refl
within false from to k n i first last a b c d e f = grind arith

past : (old : Bool) (from to k n : ℕ) → (n < 8 * k) ⊎ (8 * k + 8 ≤ n) → (old || (nat_le from n && nat_lt n (min to (8 * k)))) ≡ old || (nat_le from n && nat_lt n (min to (8 * (k + 1))))
past true from to k n h = refl
past false from to k n h = grind arith

-- one byte more is filled
pub filled-more : (rows before : List ℕ) (from to k first last mask : ℕ) → k < length rows → from / 8 ≤ k → 8 * k < to → first ≡ from - 8 * k → last ≡ min (to - 8 * k) 8 → ((i : ℕ) → i < 8 → bit_at mask (7 - i) ≡ one_if (nat_le first i && nat_lt i last)) → ((start x : ℕ) → packed_pixel rows start x ≡ (packed_pixel before start x || (nat_le from (8 * start + x) && nat_lt (8 * start + x) (min to (8 * k))))) → (start x : ℕ) → packed_pixel (set rows k (bit_or (get_or rows k 0) mask)) start x ≡ (packed_pixel before start x || (nat_le from (8 * start + x) && nat_lt (8 * start + x) (min to (8 * (k + 1)))))
filled-more rows before from to k first last mask h low high f l bits so_far start x =
    elim (cases_eq (start + x / 8) k) [
      | inl here ↦
          masked_here rows k start x mask (nat_le first (x % 8) && nat_lt (x % 8) last) h here (bits (x % 8) (omega arith))
          ∙ ap (λ (t : Bool). t || (nat_le first (x % 8) && nat_lt (x % 8) last)) (so_far start x)
          ∙ within (packed_pixel before start x) from to k (8 * start + x) (x % 8) first last (omega arith) (omega arith) low high f l
      | inr ne ↦
          let apart : (8 * start + x < 8 * k) ⊎ (8 * k + 8 ≤ 8 * start + x) =
          elim (cases_lt (start + x / 8) k) [ inl less ↦ inl (omega arith) | inr more ↦ inr (omega arith) ] in
          masked_elsewhere rows k start x (bit_or (get_or rows k 0) mask) ne
          ∙ so_far start x
          ∙ past (packed_pixel before start x) from to k (8 * start + x) apart
    ]

none_yet : (old : Bool) (from to n : ℕ) → old ≡ old || (nat_le from n && nat_lt n (min to (8 * (from / 8))))
none_yet true from to n = refl
none_yet false from to n = grind arith

-- before the first byte nothing is filled
pub filled-none : (before : List ℕ) (from to start x : ℕ) → packed_pixel before start x ≡ (packed_pixel before start x || (nat_le from (8 * start + x) && nat_lt (8 * start + x) (min to (8 * (from / 8)))))
filled-none before from to start x = none_yet (packed_pixel before start x) from to (8 * start + x)

-- in packed rows, places of a row are a span of all places
span : (y v a b size width left right u : ℕ) → (v < y → b + size ≤ a) → (v ≡ y → b ≡ a) → (y < v → a + size ≤ b) → width ≤ 8 * size → u < width → left < right → right ≤ width → (nat_le (8 * a + left) (8 * b + u) && nat_lt (8 * b + u) (8 * a + right)) ≡ rectangle (pos left) (pos y) (right - left) 1 (pos u) (pos v)
span y v a b size width left right u less same more wide inside order end =
    elim (cases_lt v y) [
      | inl l ↦ let e : b + size ≤ a = less l in grind (arith, ints)
      | inr g ↦ elim (cases_eq v y) [
        | inl s ↦ let e : b ≡ a = same s in grind (arith, ints)
        | inr d ↦ let e : a + size ≤ b = more (omega arith) in grind (arith, ints)
      ]
    ]

pub rows_apart : (y v size : ℕ) → v < y → v * size + size ≤ y * size
rows_apart y v size h = let most : (v + 1) * size ≤ y * size = mul-le-mul (omega arith) (omega arith) in omega arith

-- filling a span of a row paints it
pub packed-fill : (width height left right y : ℕ) (before after : List ℕ) (page : Page) → packed_page width height before ≡ page → left < right → right ≤ width → y < height → ((start x : ℕ) → packed_pixel after start x ≡ (packed_pixel before start x || (nat_le (8 * (y * stride_of width) + left) (8 * start + x) && nat_lt (8 * start + x) (8 * (y * stride_of width) + right)))) → packed_page width height after ≡ painted page (rectangle (pos left) (pos y) (right - left) 1)
packed-fill width height left right y before after page e order end row filled =
    subst (λ (p : Page). packed_page width height after ≡ painted p (rectangle (pos left) (pos y) (right - left) 1)) e
    (page_of-same width height _ _ (λ u v m g.
    filled (v * stride_of width) u
    ∙ ap₂ (λ (s t : Bool). s || t)
    (sym (dark_at-inside width height u v (packed_pixels width before) m g))
    (span y v (y * stride_of width) (v * stride_of width) (stride_of width) width left right u
    (rows_apart y v (stride_of width)) (λ s. ap (λ n. n * stride_of width) s) (rows_apart v y (stride_of width)) (omega arith) m order end)))

-- the same, by what the code knows: the size of a row, and the rows before and after
pub packed-fill_at : (width height left right y size : ℕ) (before rows after whole : List ℕ) (page : Page) → size ≡ stride_of width → rows ≡ before → whole ≡ after → packed_page width height before ≡ page → left < right → right ≤ page.width → y < page.height → ((start x : ℕ) → packed_pixel after start x ≡ (packed_pixel rows start x || (nat_le (8 * (y * size) + left) (8 * start + x) && nat_lt (8 * start + x) (8 * (y * size) + right)))) → packed_page width height whole ≡ painted page (rectangle (pos left) (pos y) (right - left) 1)
packed-fill_at width height left right y size before rows after whole page sized old new e order l h filled =
    let across : width ≡ page.width = ap (λ (p : Page). p.width) e in
    let down : height ≡ page.height = ap (λ (p : Page). p.height) e in
    ap (packed_page width height) new
    ∙ packed-fill width height left right y before after page e order (omega arith) (omega arith) (rw (sized, old) at filled)

-- the pixels before byte k are filled
pub record Filled (rows before : List ℕ) (from to k : ℕ) : Type 0 where
  pub size : length rows ≡ length before
  pub pixels : (start x : ℕ) → packed_pixel rows start x ≡ (packed_pixel before start x || (nat_le from (8 * start + x) && nat_lt (8 * start + x) (min to (8 * k))))

-- a byte that has its bits is filled besides
pub Filled-more : (rows before after : List ℕ) (from to k first last mask : ℕ) → Filled rows before from to k → after ≡ set rows k (bit_or (get_or rows k 0) mask) → k < length before → from / 8 ≤ k → 8 * k < to → first ≡ from - 8 * k → last ≡ min (to - 8 * k) 8 → IsMask mask first last → Filled after before from to (k + 1)
Filled-more rows before after from to k first last mask filled is inside low high f l bits =
    let Now : List ℕ → Type 0 = λ r. Filled r before from to (k + 1) in
    subst Now (sym is) (record {
      size = omega (arith, filled.size, length-set rows k (bit_or (get_or rows k 0) mask));
      pixels = filled-more rows before from to k first last mask (omega (arith, filled.size)) low high f l bits filled.pixels;
    })

-- before the first byte nothing is filled
pub Filled-none : (before : List ℕ) (from to : ℕ) → Filled before before from to (from / 8)
Filled-none before from to = record { size = refl; pixels = filled-none before from to }

-- behind the last byte all is filled
pub Filled-all : (rows before : List ℕ) (from to k : ℕ) → Filled rows before from to k → to ≤ 8 * k → (start x : ℕ) → packed_pixel rows start x ≡ (packed_pixel before start x || (nat_le from (8 * start + x) && nat_lt (8 * start + x) to))
Filled-all rows before from to k filled past start x =
    let most : min to (8 * k) ≡ to = omega arith in
    filled.pixels start x ∙ ap (λ m. packed_pixel before start x || (nat_le from (8 * start + x) && nat_lt (8 * start + x) m)) most

-- a whole byte
pub whole_mask : IsMask 255 0 8
whole_mask i h = mask_bit 0 8 i (omega arith) (omega arith) h

both_bits : (first last i : ℕ) → i < 8 → min (one_if (nat_le first i && nat_lt i 8)) (one_if (nat_le 0 i && nat_lt i last)) ≡ one_if (nat_le first i && nat_lt i last)
both_bits first last i h = grind arith

-- the bits that two masks share
pub both_masks : (a b first last : ℕ) → IsMask a first 8 → IsMask b 0 last → IsMask (bit_and a b) first last
both_masks a b first last p q i h = bit_at_and a b (7 - i) ∙ ap₂ min (p i h) (q i h) ∙ both_bits first last i h

-- the first byte of a run is filled
pub Filled-first : (before after : List ℕ) (start left right last bits : ℕ) → left < right → last ≡ min (right - 8 * (left / 8)) 8 → start + left / 8 < length before → after ≡ set before (start + left / 8) (bit_or (get_or before (start + left / 8) 0) bits) → IsMask bits (left % 8) last → Filled after before (8 * start + left) (8 * start + right) (start + left / 8 + 1)
Filled-first before after start left right last bits order end inside is mask =
    let place : (8 * start + left) / 8 ≡ start + left / 8 = omega arith in
    Filled-more before before after (8 * start + left) (8 * start + right) (start + left / 8) _ _ bits (rw place at (Filled-none before (8 * start + left) (8 * start + right))) is inside (omega arith) (omega arith) (omega arith) (omega arith) mask

-- the last byte of a run is filled, and so all of it
pub Filled-last : (before rows after : List ℕ) (start left right k bits : ℕ) → k ≡ start + (right - 1) / 8 → left / 8 < (right - 1) / 8 → k < length before → Filled rows before (8 * start + left) (8 * start + right) k → after ≡ set rows k (bit_or (get_or rows k 0) bits) → IsMask bits 0 (right - 8 * ((right - 1) / 8)) → (other x : ℕ) → packed_pixel after other x ≡ (packed_pixel before other x || (nat_le (8 * start + left) (8 * other + x) && nat_lt (8 * other + x) (8 * start + right)))
Filled-last before rows after start left right k bits place apart inside filled is mask =
    Filled-all after before (8 * start + left) (8 * start + right) (k + 1)
    (Filled-more rows before after (8 * start + left) (8 * start + right) k _ _ bits filled is inside (omega arith) (omega arith) (omega arith) (omega arith) mask)
    (omega arith)
