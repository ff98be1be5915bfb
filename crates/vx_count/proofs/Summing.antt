-- The sums of a page's rows, made one after the other and looked up.
use Rattle.std.proofs.Common.{◌≡◌, ℕ, ◌+◌, ◌-◌, ◌*◌, ◌/◌, ◌<◌, ◌≤◌, List, length, get_or, set, get_or-set_same, get_or-set_other, mul-le-mul_right, pos, ap, ap₂, sym, ◌∙◌, arith, inl, inr, subst}
use Rattle.std.proofs.lemmas.Bool.{cases_eq}
use Rattle.std.proofs.lemmas.List.{get_or_default}
use Rattle.std.proofs.lemmas.Nat.{same_from_place}
use Rattle.vx_plane.specs.Plane.{Page, dark_at}
use Rattle.vx_plane.specs.Count.{count_in}
use Rattle.vx_count.specs.Sums.{BeginsWithSums, AreSums, blocks_of, sum_at}

-- one sum more
pub sums-more : (page : Page) (row k at many dark : ℕ) (sums : List ℕ) → BeginsWithSums page at sums → at ≡ row * blocks_of page + k → many ≡ row * blocks_of page + (k + 1) → at < length sums → k < blocks_of page → dark ≡ sum_at page row k → BeginsWithSums page many (set sums at dark)
sums-more page row k at many dark sums so_far here more inside within counted = record {
  each = λ r j l h.
      elim (cases_eq (r * blocks_of page + j) at) [
        | inl same ↦
            let place : (r ≡ row) × (j ≡ k) = same_from_place r j row k (blocks_of page) l within (same ∙ here) in
            ap (λ i. get_or (set sums at dark) i 0) same
            ∙ get_or-set_same sums at dark 0 inside
            ∙ counted
            ∙ sym (ap₂ (λ y i. sum_at page y i) place.0 place.1)
        | inr other ↦ get_or-set_other sums at (r * blocks_of page + j) dark 0 other ∙ so_far.each r j l (omega arith)
      ];
}

-- the same number of sums, counted in another way
pub sums-at : (page : Page) (m n : ℕ) (sums : List ℕ) → BeginsWithSums page m sums → m ≡ n → BeginsWithSums page n sums
sums-at page m n sums so_far same = rw (← same) so_far

-- the sum at a column
pub sum-at : (page : Page) (row block : ℕ) (sums : List ℕ) → BeginsWithSums page (page.height * blocks_of page) sums → row < page.height → 0 < block → 1024 * block ≤ page.width → get_or sums (row * blocks_of page + (block - 1)) 0 ≡ count_in (pos 0) (pos row) (1024 * block) 1 (dark_at page)
sum-at page row block sums all down some across =
    let whole : 1024 * (block - 1 + 1) ≡ 1024 * block = omega arith in
    let above : (row + 1) * blocks_of page ≤ page.height * blocks_of page = mul-le-mul_right (blocks_of page) (omega arith) in
    all.each row (block - 1) (omega arith) (omega arith) ∙ ap (λ n. count_in (pos 0) (pos row) n 1 (dark_at page)) whole

-- the sums of a row lie among those of the page
pub sums-inside : (page : Page) (row k at : ℕ) (sums : List ℕ) → at ≡ row * blocks_of page + k → row < page.height → k < blocks_of page → length sums ≡ page.height * blocks_of page → at < length sums
sums-inside page row k at sums here down within sized =
    let above : (row + 1) * blocks_of page ≤ page.height * blocks_of page = mul-le-mul_right (blocks_of page) (omega arith) in
    omega arith

-- the same, by what the code knows
pub sum-found : (rows page : Page) (row block width result found : ℕ) (sums : List ℕ) → rows ≡ page → AreSums rows sums → width ≡ rows.width → row < page.height → 0 < block → 1024 * block ≤ page.width → found ≡ get_or sums (row * (width / 1024) + (block - 1)) found → result ≡ found → result ≡ count_in (pos 0) (pos row) (1024 * block) 1 (dark_at page)
sum-found rows page row block width result found sums same all wide down some across at is =
    let whole : AreSums page sums = subst (λ (p : Page). AreSums p sums) same all in
    let here : row * (width / 1024) + (block - 1) ≡ row * blocks_of page + (block - 1) = ap (λ w. row * (w / 1024) + (block - 1)) (wide ∙ ap (λ (p : Page). p.width) same) in
    is ∙ at ∙ get_or_default sums (row * (width / 1024) + (block - 1)) found 0 (sums-inside page row (block - 1) _ sums here down (omega arith) whole.size)
    ∙ ap (λ i. get_or sums i 0) here
    ∙ sum-at page row block sums whole.all down some across
