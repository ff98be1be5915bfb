-- Sums over runs of whole numbers that lie differently.
use Rattle.std.proofs.Common.{◌≡◌, ℕ, zero, suc, ◌+◌, ◌-◌, ◌≤◌, ℤ, pos, negsuc, ◌+ℤ◌, ◌-ℤ◌, ◌≤ℤ◌, ◌<ℤ◌, ◌⊎◌, inl, inr, ap, sym, subst, ◌∙◌, arith}
use Rattle.std.proofs.lemmas.Int.{ints, by_lt_z}
use Rattle.vx_plane.specs.Count.{sum_from}
use Rattle.vx_plane.proofs.Sums.{sum_from-parts, sum_from-moved}

-- runs that begin together: what of the first lies past the other is 0
aligned_le : (a : ℤ) (m n : ℕ) (f : ℤ → ℕ) → ((z : ℤ) → a ≤ℤ z → z <ℤ (a +ℤ pos m) → (a +ℤ pos n) ≤ℤ z → f z ≡ 0) → sum_from a m f ≤ sum_from a n f
aligned_le a zero n f none = omega arith
aligned_le a (suc m) zero f none =
    let here : f a ≡ 0 = none a (omega (arith, ints)) (omega (arith, ints)) (omega (arith, ints)) in
    let rest : sum_from (a +ℤ pos 1) m f ≤ sum_from (a +ℤ pos 1) 0 f = aligned_le (a +ℤ pos 1) m 0 f (λ z from to past. none z (omega (arith, ints)) (omega (arith, ints)) (omega (arith, ints))) in
    omega arith
aligned_le a (suc m) (suc n) f none =
    let rest : sum_from (a +ℤ pos 1) m f ≤ sum_from (a +ℤ pos 1) n f = aligned_le (a +ℤ pos 1) m n f (λ z from to past. none z (omega (arith, ints)) (omega (arith, ints)) (omega (arith, ints))) in
    omega arith

-- a number of a run lies outside another run
abbrev pub LiesOutside : ℤ → ℕ → ℤ → Type 0
LiesOutside b n z = (z <ℤ b) ⊎ ((b +ℤ pos n) ≤ℤ z)

-- a run that begins k later than the other
later_le : (a : ℤ) (m : ℕ) (b : ℤ) (n k : ℕ) (f : ℤ → ℕ) → a ≡ b +ℤ pos k → ((z : ℤ) → a ≤ℤ z → z <ℤ (a +ℤ pos m) → LiesOutside b n z → f z ≡ 0) → sum_from a m f ≤ sum_from b n f
later_le a m b n k f at none =
    by_lt_z (pos n) (pos k)
    (λ past.
    let nothing : sum_from a m f ≤ sum_from a 0 f = aligned_le a m 0 f (λ z from to up. none z from to (inr (omega (arith, ints, at, past)))) in
    omega arith)
    (λ within.
    let whole : n ≡ k + (n - k) = omega (arith, ints, within) in
    let cut : sum_from b (k + (n - k)) f ≡ sum_from b k f + sum_from (b +ℤ pos k) (n - k) f = sum_from-parts b k (n - k) f in
    let there : sum_from (b +ℤ pos k) (n - k) f ≡ sum_from a (n - k) f = ap (λ z. sum_from z (n - k) f) (sym at) in
    let all : sum_from b n f ≡ sum_from b (k + (n - k)) f = ap (λ c. sum_from b c f) whole in
    let most : sum_from a m f ≤ sum_from a (n - k) f = aligned_le a m (n - k) f (λ z from to up. none z from to (inr (omega (arith, ints, at, up, within)))) in
    omega arith)

run_from : (a : ℤ) (m : ℕ) (b : ℤ) (n : ℕ) (f : ℤ → ℕ) (d : ℤ) → a ≡ b +ℤ d → ((z : ℤ) → a ≤ℤ z → z <ℤ (a +ℤ pos m) → LiesOutside b n z → f z ≡ 0) → sum_from a m f ≤ sum_from b n f
run_from a zero b n f d at none = omega arith
run_from a (suc m) b n f (pos k) at none = later_le a (suc m) b n k f at none
run_from a (suc m) b n f (negsuc k) at none =
    let here : f a ≡ 0 = none a (omega (arith, ints)) (omega (arith, ints)) (inl (omega (arith, ints, at))) in
    let rest : sum_from (a +ℤ pos 1) m f ≤ sum_from b n f = run_from (a +ℤ pos 1) m b n f ((a +ℤ pos 1) -ℤ b) (omega (arith, ints)) (λ z from to out. none z (omega (arith, ints)) (omega (arith, ints)) out) in
    omega arith

-- a sum over a run is at most that over another run, where what lies outside the other is 0
pub run_le : (a : ℤ) (m : ℕ) (b : ℤ) (n : ℕ) (f : ℤ → ℕ) → ((z : ℤ) → a ≤ℤ z → z <ℤ (a +ℤ pos m) → LiesOutside b n z → f z ≡ 0) → sum_from a m f ≤ sum_from b n f
run_le a m b n f none = run_from a m b n f (a -ℤ b) (omega (arith, ints)) none

-- the same, of a run that is moved along
pub moved_le : (a : ℤ) (m : ℕ) (b : ℤ) (n : ℕ) (by : ℤ) (f : ℤ → ℕ) → ((z : ℤ) → a ≤ℤ z → z <ℤ (a +ℤ pos m) → LiesOutside b n (z +ℤ by) → f (z +ℤ by) ≡ 0) → sum_from a m (λ z. f (z +ℤ by)) ≤ sum_from b n f
moved_le a m b n by f none =
    let moved : sum_from (a +ℤ by) m f ≡ sum_from a m (λ z. f (z +ℤ by)) = sum_from-moved a by m f in
    let most : sum_from (a +ℤ by) m f ≤ sum_from b n f = run_le (a +ℤ by) m b n f (λ z from to out.
    let there : (z -ℤ by) +ℤ by ≡ z = omega (arith, ints) in
    let Out : ℤ → Type 0 = λ w. LiesOutside b n w in
    sym (ap f there) ∙ none (z -ℤ by) (omega (arith, ints)) (omega (arith, ints)) (subst Out (sym there) out)) in
    omega (arith, moved, most)
