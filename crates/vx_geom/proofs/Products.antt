-- Laws of products of whole numbers.
use Rattle.std.proofs.Common.{◌≡◌, ℕ, zero, suc, ◌*◌, ◌≤◌, ℤ, pos, negsuc, ◌+ℤ◌, ◌-ℤ◌, ◌*ℤ◌, mul-le-mul, ap, ◌∙◌, arith}
use Rattle.std.proofs.lemmas.Int.{ints}
use Rattle.std.proofs.Math.IntN.{suc_ℤ, pred_ℤ, +ℤ_one, -ℤ_one, suc_ℤ-*ℤ, pred_ℤ-*ℤ, zero-*ℤ, *ℤ_comm}
use Rattle.vx_grid.specs.Places.{IsWithin}

-- a sum times a number
pub sum_times : (m d k : ℤ) → (m +ℤ d) *ℤ k ≡ (m *ℤ k) +ℤ (d *ℤ k)
sum_times m (pos zero) k =
    let none : m +ℤ pos 0 ≡ m = omega (arith, ints) in
    ap (λ z. z *ℤ k) none ∙ (let nothing : pos 0 *ℤ k ≡ pos 0 = zero-*ℤ k in omega (arith, ints, nothing))
sum_times m (pos (suc n)) k =
    let before : (m +ℤ pos n) *ℤ k ≡ (m *ℤ k) +ℤ (pos n *ℤ k) = sum_times m (pos n) k in
    let one : m +ℤ pos (suc n) ≡ (m +ℤ pos n) +ℤ pos 1 = omega (arith, ints) in
    let next : m +ℤ pos (suc n) ≡ suc_ℤ (m +ℤ pos n) = one ∙ +ℤ_one (m +ℤ pos n) in
    let left : suc_ℤ (m +ℤ pos n) *ℤ k ≡ ((m +ℤ pos n) *ℤ k) +ℤ k = suc_ℤ-*ℤ (m +ℤ pos n) k in
    let right : pos (suc n) *ℤ k ≡ (pos n *ℤ k) +ℤ k = suc_ℤ-*ℤ (pos n) k in
    ap (λ z. z *ℤ k) next ∙ left ∙ omega (arith, ints, before, right)
sum_times m (negsuc zero) k =
    let one : m +ℤ negsuc 0 ≡ m -ℤ pos 1 = omega (arith, ints) in
    let next : m +ℤ negsuc 0 ≡ pred_ℤ m = one ∙ -ℤ_one m in
    let left : pred_ℤ m *ℤ k ≡ (m *ℤ k) -ℤ k = pred_ℤ-*ℤ m k in
    let right : negsuc 0 *ℤ k ≡ (pos 0 *ℤ k) -ℤ k = pred_ℤ-*ℤ (pos 0) k in
    let nothing : pos 0 *ℤ k ≡ pos 0 = zero-*ℤ k in
    ap (λ z. z *ℤ k) next ∙ left ∙ omega (arith, ints, right, nothing)
sum_times m (negsuc (suc n)) k =
    let before : (m +ℤ negsuc n) *ℤ k ≡ (m *ℤ k) +ℤ (negsuc n *ℤ k) = sum_times m (negsuc n) k in
    let one : m +ℤ negsuc (suc n) ≡ (m +ℤ negsuc n) -ℤ pos 1 = omega (arith, ints) in
    let next : m +ℤ negsuc (suc n) ≡ pred_ℤ (m +ℤ negsuc n) = one ∙ -ℤ_one (m +ℤ negsuc n) in
    let left : pred_ℤ (m +ℤ negsuc n) *ℤ k ≡ ((m +ℤ negsuc n) *ℤ k) -ℤ k = pred_ℤ-*ℤ (m +ℤ negsuc n) k in
    let right : negsuc (suc n) *ℤ k ≡ (negsuc n *ℤ k) -ℤ k = pred_ℤ-*ℤ (negsuc n) k in
    ap (λ z. z *ℤ k) next ∙ left ∙ omega (arith, ints, before, right)

-- a product from another one
pub product-moved : (a v w : ℤ) → a *ℤ v ≡ (a *ℤ w) +ℤ (a *ℤ (v -ℤ w))
product-moved a v w =
    let whole : v ≡ w +ℤ (v -ℤ w) = omega (arith, ints) in
    ap (λ z. a *ℤ z) whole ∙ *ℤ_comm a (w +ℤ (v -ℤ w)) ∙ sum_times w (v -ℤ w) a
    ∙ (ap (λ z. z +ℤ ((v -ℤ w) *ℤ a)) (*ℤ_comm w a) ∙ ap (λ z. (a *ℤ w) +ℤ z) (*ℤ_comm (v -ℤ w) a))

-- a product of numbers within bounds
pub product-within : (m n : ℕ) (a d : ℤ) → IsWithin m a → IsWithin n d → IsWithin (m * n) (a *ℤ d)
product-within m n (pos a) (pos d) h g =
    let most : a * d ≤ m * n = mul-le-mul (omega (arith, ints, h.high)) (omega (arith, ints, g.high)) in
    record { low = omega (arith, ints, most); high = omega (arith, ints, most) }
product-within m n (pos a) (negsuc d) h g =
    let most : a * suc d ≤ m * n = mul-le-mul (omega (arith, ints, h.high)) (omega (arith, ints, g.low)) in
    record { low = omega (arith, ints, most); high = omega (arith, ints, most) }
product-within m n (negsuc a) (pos d) h g =
    let most : suc a * d ≤ m * n = mul-le-mul (omega (arith, ints, h.low)) (omega (arith, ints, g.high)) in
    record { low = omega (arith, ints, most); high = omega (arith, ints, most) }
product-within m n (negsuc a) (negsuc d) h g =
    let most : suc a * suc d ≤ m * n = mul-le-mul (omega (arith, ints, h.low)) (omega (arith, ints, g.low)) in
    record { low = omega (arith, ints, most); high = omega (arith, ints, most) }
