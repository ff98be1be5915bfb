-- Weighted means of whole numbers, and their floors.
use Rattle.std.proofs.Common.{◌≡◌, ℕ, zero, suc, ◌+◌, ◌*◌, ℤ, pos, ◌+ℤ◌, ◌-ℤ◌, ◌*ℤ◌, ◌≤ℤ◌, refl, ap, sym, ◌∙◌, arith}
use Rattle.std.proofs.lemmas.Int.{ints}
use Rattle.std.proofs.Math.IntN.{suc_ℤ-*ℤ, *ℤ-zero, *ℤ_comm}
use Rattle.vx_grid.specs.Places.{IsWithin}
use Rattle.vx_geom.proofs.Products.{sum_times}
use Rattle.vx_geom.proofs.Floors.{IsFloor}

-- so many times a whole number
abbrev pub times : ℕ → ℤ → ℤ
times zero x = pos 0
times (suc n) x = x +ℤ times n x

pub times-sum : (n : ℕ) (x y : ℤ) → times n (x +ℤ y) ≡ times n x +ℤ times n y
times-sum zero x y = refl
times-sum (suc n) x y = omega (arith, ints, times-sum n x y)

pub times-less : (n : ℕ) (x y : ℤ) → times n (x -ℤ y) ≡ times n x -ℤ times n y
times-less zero x y = refl
times-less (suc n) x y = omega (arith, ints, times-less n x y)

pub times-add : (m n : ℕ) (x : ℤ) → times (m + n) x ≡ times m x +ℤ times n x
times-add zero n x =
    let none : 0 + n ≡ n = omega arith in
    ap (λ k. times k x) none ∙ omega (arith, ints)
times-add (suc m) n x =
    let more : suc m + n ≡ suc (m + n) = omega arith in
    ap (λ k. times k x) more ∙ omega (arith, ints, times-add m n x)

pub times-le : (n : ℕ) (x y : ℤ) → x ≤ℤ y → times n x ≤ℤ times n y
times-le zero x y h = omega (arith, ints)
times-le (suc n) x y h = omega (arith, ints, times-le n x y h)

-- so many times a natural number
pub times-natural : (n m : ℕ) → times n (pos m) ≡ pos (n * m)
times-natural zero m = ap pos (omega arith)
times-natural (suc n) m =
    let product : suc n * m ≡ m + n * m = omega arith in
    let rest : times n (pos m) ≡ pos (n * m) = times-natural n m in
    omega (arith, ints, rest, product)

pub times-4096 : (n : ℕ) (x : ℤ) → times n (pos 4096 *ℤ x) ≡ pos 4096 *ℤ times n x
times-4096 zero x = refl
times-4096 (suc n) x = omega (arith, ints, times-4096 n x)

pub times-33 : (x : ℤ) → times 33 x ≡ pos 33 *ℤ x
times-33 x = omega (arith, ints)

-- so many times is a product
pub times-product : (n : ℕ) (x : ℤ) → x *ℤ pos n ≡ times n x
times-product zero x = *ℤ-zero x
times-product (suc n) x =
    let next : pos (suc n) *ℤ x ≡ (pos n *ℤ x) +ℤ x = suc_ℤ-*ℤ (pos n) x in
    let before : pos n *ℤ x ≡ times n x = *ℤ_comm (pos n) x ∙ times-product n x in
    *ℤ_comm x (pos (suc n)) ∙ next ∙ omega (arith, ints, before)

-- a product with a sum
pub times_sum : (a x y : ℤ) → a *ℤ (x +ℤ y) ≡ (a *ℤ x) +ℤ (a *ℤ y)
times_sum a x y =
    *ℤ_comm a (x +ℤ y) ∙ sum_times x y a
    ∙ (ap (λ z. z +ℤ (y *ℤ a)) (*ℤ_comm x a) ∙ ap (λ z. (a *ℤ x) +ℤ z) (*ℤ_comm y a))

pub times-slope : (n : ℕ) (a x : ℤ) → times n (a *ℤ x) ≡ a *ℤ times n x
times-slope zero a x = sym (*ℤ-zero a)
times-slope (suc n) a x =
    let rest : times n (a *ℤ x) ≡ a *ℤ times n x = times-slope n a x in
    let both : a *ℤ (x +ℤ times n x) ≡ (a *ℤ x) +ℤ (a *ℤ times n x) = times_sum a x (times n x) in
    omega (arith, ints, rest, both)

-- so many times what lies within bounds
pub times-within : (n m : ℕ) (x : ℤ) → IsWithin m x → IsWithin (n * m) (times n x)
times-within zero m x h = record { low = omega (arith, ints); high = omega (arith, ints) }
times-within (suc n) m x h =
    let rest : IsWithin (n * m) (times n x) = times-within n m x h in
    let product : suc n * m ≡ m + n * m = omega arith in
    record { low = omega (arith, ints, h.low, rest.low, product); high = omega (arith, ints, h.high, rest.high, product) }

-- the same with each part as a number of its own
bounds : (d c k : ℕ) (m n z e f g h ff gg hh : ℤ) → d + c ≡ 33
    → ff ≡ pos 4096 *ℤ f → gg ≡ pos 4096 *ℤ g → hh ≡ pos 4096 *ℤ h
    → ff ≤ℤ m → gg ≤ℤ n → hh ≤ℤ z
    → m ≤ℤ (ff +ℤ pos (d * 4095)) → n ≤ℤ (gg +ℤ pos (c * 4095)) → z ≤ℤ (hh +ℤ pos (33 * 4095))
    → z ≡ (m +ℤ n) +ℤ e → IsWithin k e
    → IsWithin (33 * 4095 + k) (pos 4096 *ℤ (h -ℤ (f +ℤ g)))
bounds d c k m n z e f g h ff gg hh all is_f is_g is_h low_m low_n low_z high_m high_n high_z mean near = record {
  low = omega (arith, ints, is_f, is_g, is_h, low_m, low_n, high_z, mean, near.low, near.high);
  high = omega (arith, ints, all, is_f, is_g, is_h, low_z, high_m, high_n, mean, near.low, near.high);
}

-- the floor of a mean of numbers is the mean of their floors, nearly
pub floors-mean : (d c k : ℕ) (m n z e f g h : ℤ) → d + c ≡ 33 → IsFloor m f → IsFloor n g → IsFloor z h
    → times 33 z ≡ (times d m +ℤ times c n) +ℤ e → IsWithin k e
    → IsWithin (33 * 4095 + k) (pos 4096 *ℤ (times 33 h -ℤ (times d f +ℤ times c g)))
floors-mean d c k m n z e f g h all of_m of_n of_z mean near =
    let low_m : times d (pos 4096 *ℤ f) ≤ℤ times d m = times-le d (pos 4096 *ℤ f) m of_m.low in
    let low_n : times c (pos 4096 *ℤ g) ≤ℤ times c n = times-le c (pos 4096 *ℤ g) n of_n.low in
    let low_z : times 33 (pos 4096 *ℤ h) ≤ℤ times 33 z = times-le 33 (pos 4096 *ℤ h) z of_z.low in
    let high_m : times d m ≤ℤ times d ((pos 4096 *ℤ f) +ℤ pos 4095) = times-le d m ((pos 4096 *ℤ f) +ℤ pos 4095) (omega (arith, ints, of_m.high)) in
    let high_n : times c n ≤ℤ times c ((pos 4096 *ℤ g) +ℤ pos 4095) = times-le c n ((pos 4096 *ℤ g) +ℤ pos 4095) (omega (arith, ints, of_n.high)) in
    let high_z : times 33 z ≤ℤ times 33 ((pos 4096 *ℤ h) +ℤ pos 4095) = times-le 33 z ((pos 4096 *ℤ h) +ℤ pos 4095) (omega (arith, ints, of_z.high)) in
    let sum_m : times d ((pos 4096 *ℤ f) +ℤ pos 4095) ≡ times d (pos 4096 *ℤ f) +ℤ times d (pos 4095) = times-sum d (pos 4096 *ℤ f) (pos 4095) in
    let sum_n : times c ((pos 4096 *ℤ g) +ℤ pos 4095) ≡ times c (pos 4096 *ℤ g) +ℤ times c (pos 4095) = times-sum c (pos 4096 *ℤ g) (pos 4095) in
    let sum_z : times 33 ((pos 4096 *ℤ h) +ℤ pos 4095) ≡ times 33 (pos 4096 *ℤ h) +ℤ times 33 (pos 4095) = times-sum 33 (pos 4096 *ℤ h) (pos 4095) in
    bounds d c k (times d m) (times c n) (times 33 z) e (times d f) (times c g) (times 33 h)
    (times d (pos 4096 *ℤ f)) (times c (pos 4096 *ℤ g)) (times 33 (pos 4096 *ℤ h))
    all (times-4096 d f) (times-4096 c g) (times-4096 33 h)
    low_m low_n low_z
    (omega (arith, ints, high_m, sum_m, times-natural d 4095)) (omega (arith, ints, high_n, sum_n, times-natural c 4095)) (omega (arith, ints, high_z, sum_z, times-natural 33 4095))
    mean near
