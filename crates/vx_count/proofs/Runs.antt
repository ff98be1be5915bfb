-- From the bits of a word to the dark pixels of a run.
use Rattle.std.proofs.Common.{◌≡◌, ℕ, zero, suc, ◌+◌, ◌-◌, ◌*◌, ◌/◌, ◌%◌, ◌^◌, ◌<◌, ◌≤◌, ◌==◌, w64, List, [], ◌∷◌, ◌++◌, length, get_or, mul-le-mul_right, pos, refl, ap, ap₂, sym, subst, ◌∙◌, arith, inl, inr}
use Rattle.std.specs.Int.{bit_at, from_be_bytes}
use Rattle.std.specs.Int.Count.{ones}
use Rattle.std.proofs.lemmas.Bool.{cases_lt}
use Rattle.std.proofs.lemmas.List.{get_or_past, get_or_append_left}
use Rattle.std.proofs.lemmas.Nat.Bits.{bit_at-lt}
use Rattle.vx_plane.specs.Plane.{Page, dark_at}
use Rattle.vx_plane.specs.Count.{one_if, count_in}
use Rattle.vx_plane.proofs.Pages.{dark_at-inside, page_of-same}
use Rattle.vx_bits.specs.Packed.{stride_of, packed_pixels, packed_page}
use Rattle.vx_count.specs.Words.{IsWordAt}
use Rattle.vx_count.proofs.Ones.{ones-count, word-bit, shifted-bit, shifted-small}

two_cases : (b : ℕ) → b < 2 → one_if (b == 1) ≡ b
two_cases zero h = refl
two_cases (suc zero) h = refl
two_cases (suc (suc b)) h = absurd (omega arith)

-- a pixel of packed rows is a bit
pixel-bit : (width height x y : ℕ) (bytes : List ℕ) (page : Page) → packed_page width height bytes ≡ page → x < width → y < height → one_if (dark_at page (pos x) (pos y)) ≡ bit_at (get_or bytes (y * stride_of width + x / 8) 0) (7 - x % 8)
pixel-bit width height x y bytes page e l h =
    subst (λ (p : Page). one_if (dark_at p (pos x) (pos y)) ≡ bit_at (get_or bytes (y * stride_of width + x / 8) 0) (7 - x % 8)) e
    (ap one_if (dark_at-inside width height x y (packed_pixels width bytes) l h) ∙ two_cases _ (bit_at-lt _ _))

-- the ones of a shifted word are the dark pixels of a run
pub run-count : (width height stride left row n word : ℕ) (bytes : List ℕ) (page : Page) → packed_page width height bytes ≡ page → stride ≡ stride_of width → IsWordAt bytes (row * stride + left / 8) word → left % 8 + n ≤ 64 → left + n ≤ page.width → row < page.height → ones (word * 2 ^ (left % 8) % 2 ^ 64 / 2 ^ (64 - n)) ≡ count_in (pos left) (pos row) n 1 (dark_at page)
run-count width height stride left row n word bytes page e across at within columns rows =
    let wide : page.width ≡ width = sym (ap (λ (p : Page). p.width) e) in
    let high : page.height ≡ height = sym (ap (λ (p : Page). p.height) e) in
    ones-count n _ (pos left) (pos row) (dark_at page) (shifted-small word (left % 8) n (omega arith)) (λ i h.
    let byte : row * stride + left / 8 + (left % 8 + i) / 8 ≡ row * stride_of width + (left + i) / 8 = omega (arith, ap (λ s. row * s) across) in
    let bit : 7 - (left % 8 + i) % 8 ≡ 7 - (left + i) % 8 = omega arith in
    shifted-bit word (left % 8) n i within h
    ∙ at.bits (left % 8 + i) (omega arith)
    ∙ ap₂ (λ p q. bit_at (get_or bytes p 0) q) byte bit
    ∙ sym (pixel-bit width height (left + i) row bytes page e (omega arith) (omega arith)))

-- eight bytes of a list, from a place on
abbrev eight : List ℕ → ℕ → List ℕ
eight bytes at = get_or bytes at 0 ∷ get_or bytes (at + 1) 0 ∷ get_or bytes (at + 2) 0 ∷ get_or bytes (at + 3) 0 ∷ get_or bytes (at + 4) 0 ∷ get_or bytes (at + 5) 0 ∷ get_or bytes (at + 6) 0 ∷ get_or bytes (at + 7) 0 ∷ []

get_or-eight : (bytes : List ℕ) (at j : ℕ) → j < 8 → get_or (eight bytes at) j 0 ≡ get_or bytes (at + j) 0
get_or-eight bytes at zero h = ap (λ i. get_or bytes i 0) (omega arith)
get_or-eight bytes at (suc zero) h = refl
get_or-eight bytes at (suc (suc zero)) h = refl
get_or-eight bytes at (suc (suc (suc zero))) h = refl
get_or-eight bytes at (suc (suc (suc (suc zero)))) h = refl
get_or-eight bytes at (suc (suc (suc (suc (suc zero))))) h = refl
get_or-eight bytes at (suc (suc (suc (suc (suc (suc zero)))))) h = refl
get_or-eight bytes at (suc (suc (suc (suc (suc (suc (suc zero))))))) h = refl
get_or-eight bytes at (suc (suc (suc (suc (suc (suc (suc (suc j)))))))) h = absurd (omega arith)

-- a number that is made of eight bytes has their bits
pub word-at : (bytes : List ℕ) (at word : ℕ) → word ≡ from_be_bytes w64 (eight bytes at) → ((i : ℕ) → get_or bytes i 0 < 256) → IsWordAt bytes at word
word-at bytes at word e small = record {
  bits = λ i h.
      word-bit (eight bytes at) word i e refl
      (λ k. elim (cases_lt k 8) [
        | inl l ↦ let same : get_or (eight bytes at) k 0 ≡ get_or bytes (at + k) 0 = get_or-eight bytes at k l in let below : get_or bytes (at + k) 0 < 256 = small (at + k) in omega arith
        | inr m ↦ let past : get_or (eight bytes at) k 0 ≡ 0 = get_or_past (eight bytes at) k 0 m in omega arith
      ]) h
      ∙ ap (λ b. bit_at b (7 - i % 8)) (get_or-eight bytes at (i / 8) (omega arith));
}

-- bytes behind the rows aren't seen
pub rows-padded : (width height : ℕ) (rows more : List ℕ) (page : Page) → packed_page page.width page.height rows ≡ page → width ≡ page.width → height ≡ page.height → length rows ≡ page.height * stride_of page.width → packed_page width height (rows ++ more) ≡ page
rows-padded width height rows more page e wide high sized =
    ap₂ (λ w h. packed_page w h (rows ++ more)) wide high
    ∙ page_of-same page.width page.height (packed_pixels page.width (rows ++ more)) (packed_pixels page.width rows) (λ x y l h.
    let above : (y + 1) * stride_of page.width ≤ page.height * stride_of page.width = mul-le-mul_right (stride_of page.width) (omega arith) in
    let within : y * stride_of page.width + x / 8 < length rows = omega arith in
    ap (λ b. bit_at b (7 - x % 8) == 1) (get_or_append_left rows more 0 (y * stride_of page.width + x / 8) within))
    ∙ e
