-- Products over the overstatements of draws.
use Rattle.std.proofs.Common.{◌≡◌, ℕ, zero, suc, ◌+◌, ◌-◌, ◌*◌, ◌^◌, ◌≤◌, ◌==◌, cond, List, [], ◌∷◌, length, refl, ap, sym, ◌∙◌, arith}
use Rattle.std.specs.Prelude.{All, count_by}
use Rattle.std.proofs.Math.Nat.{pow-zero, pow-suc}
use Rattle.std.proofs.lemmas.List.Sums.{sum_by-cons}
use Rattle.std.proofs.lemmas.List.Elements.{All-head, All-tail}
use Rattle.vx_risk.specs.Bound.{product_by}
use Rattle.vx_risk.specs.Counts.{AreOf}
use Rattle.vx_risk.specs.declared.draws.Draws.{Draws}

-- the product of so many equal factors
pub product_by-same : (factor : ℕ) (os : List ℕ) → product_by (λ o. factor) os ≡ factor ^ length os
product_by-same factor [] = sym (pow-zero factor)
product_by-same factor (o ∷ os) = ap (λ (n : ℕ). factor * n) (product_by-same factor os) ∙ omega (arith, pow-suc factor (length os))

-- how many draws overstate by so much
abbrev pub many : ℕ → List ℕ → ℕ
many overstatement os = count_by (λ o. o == overstatement) os

many-cons : (n o : ℕ) (os : List ℕ) → many n (o ∷ os) ≡ cond (o == n) 1 0 + many n os
many-cons n o os = sum_by-cons (λ (o : ℕ). cond (o == n) 1 0) o os

-- the product by the counts
abbrev by_counts : (ℕ → ℕ) → ℕ → ℕ → ℕ → ℕ
by_counts f none one two = f 2 ^ two * (f 1 ^ one * f 0 ^ none)

same_counts : (f : ℕ → ℕ) (none one two none' one' two' : ℕ) → none ≡ none' → one ≡ one' → two ≡ two' → by_counts f none one two ≡ by_counts f none' one' two'
same_counts f none one two none' one' two' e e' e'' = rw (e, e', e'') refl

one_none : (f : ℕ → ℕ) (none one two : ℕ) → f 0 * by_counts f none one two ≡ by_counts f (suc none) one two
one_none f none one two = rw (pow-suc (f 0) none) (omega arith)

one_one : (f : ℕ → ℕ) (none one two : ℕ) → f 1 * by_counts f none one two ≡ by_counts f none (suc one) two
one_one f none one two = rw (pow-suc (f 1) one) (omega arith)

one_two : (f : ℕ → ℕ) (none one two : ℕ) → f 2 * by_counts f none one two ≡ by_counts f none one (suc two)
one_two f none one two = rw (pow-suc (f 2) two) (omega arith)

-- a draw that is counted in one of the three
counted : (f : ℕ → ℕ) (o none one two : ℕ) → o ≤ 2 →
    f o * by_counts f none one two ≡ by_counts f (cond (o == 0) 1 0 + none) (cond (o == 1) 1 0 + one) (cond (o == 2) 1 0 + two)
counted f zero none one two small = one_none f none one two ∙ same_counts f _ _ _ _ _ _ (omega arith) (omega arith) (omega arith)
counted f (suc zero) none one two small = one_one f none one two ∙ same_counts f _ _ _ _ _ _ (omega arith) (omega arith) (omega arith)
counted f (suc (suc zero)) none one two small = one_two f none one two ∙ same_counts f _ _ _ _ _ _ (omega arith) (omega arith) (omega arith)
counted f (suc (suc (suc o))) none one two small = absurd (omega arith)

pub product_by-counts : (f : ℕ → ℕ) (os : List ℕ) → All (λ o. o ≤ 2) os → product_by f os ≡ by_counts f (many 0 os) (many 1 os) (many 2 os)
product_by-counts f [] small = rw (pow-zero (f 0), pow-zero (f 1), pow-zero (f 2)) refl
product_by-counts f (o ∷ os) small =
    ap (λ (n : ℕ). f o * n) (product_by-counts f os (All-tail (λ (o : ℕ). o ≤ 2) o os small))
    ∙ counted f o (many 0 os) (many 1 os) (many 2 os) (All-head (λ (o : ℕ). o ≤ 2) o os small)
    ∙ same_counts f _ _ _ _ _ _ (sym (many-cons 0 o os)) (sym (many-cons 1 o os)) (sym (many-cons 2 o os))

each_once : (o : ℕ) → o ≤ 2 → cond (o == 0) 1 0 + cond (o == 1) 1 0 + cond (o == 2) 1 0 ≡ 1
each_once zero small = refl
each_once (suc zero) small = refl
each_once (suc (suc zero)) small = refl
each_once (suc (suc (suc o))) small = absurd (omega arith)

-- each draw is counted once
pub many-all : (os : List ℕ) → All (λ o. o ≤ 2) os → many 0 os + many 1 os + many 2 os ≡ length os
many-all [] small = refl
many-all (o ∷ os) small =
    let rest = many-all os (All-tail (λ (o : ℕ). o ≤ 2) o os small) in
    let here = each_once o (All-head (λ (o : ℕ). o ≤ 2) o os small) in
    omega (arith, many-cons 0 o os, many-cons 1 o os, many-cons 2 o os, rest, here)

-- so many draws have no overstatement
pub none-left : (draws : Draws) (os : List ℕ) → AreOf draws os → draws.drawn - draws.one - draws.two ≡ many 0 os
none-left draws os of = omega (arith, many-all os of.small, of.all, of.ones, of.twos)

-- the numerator's product
pub same-product : (draws : Draws) (factor : ℕ) (os : List ℕ) → AreOf draws os → factor ^ draws.drawn * 1 ≡ product_by (λ o. factor) os
same-product draws factor os of = omega arith ∙ ap (λ (n : ℕ). factor ^ n) (sym of.all) ∙ sym (product_by-same factor os)

-- the denominator's
pub counted-product : (draws : Draws) (f : ℕ → ℕ) (os : List ℕ) → AreOf draws os →
    f 2 ^ draws.two * (f 1 ^ draws.one * (f 0 ^ (draws.drawn - draws.one - draws.two) * 1)) ≡ product_by f os
counted-product draws f os of =
    ap (λ (n : ℕ). f 2 ^ draws.two * (f 1 ^ draws.one * n)) (omega arith)
    ∙ same_counts f (draws.drawn - draws.one - draws.two) draws.one draws.two (many 0 os) (many 1 os) (many 2 os)
    (none-left draws os of) (sym of.ones) (sym of.twos)
    ∙ sym (product_by-counts f os of.small)

-- powers one after another
pub powers : (f : ℕ → ℕ) (f0 f1 f2 none one two start first second third none' : ℕ) → f0 ≡ f 0 → f1 ≡ f 1 → f2 ≡ f 2 → none ≡ none' →
    start ≡ 1 → first ≡ f0 ^ none * start → second ≡ f1 ^ one * first → third ≡ f2 ^ two * second →
    third ≡ f 2 ^ two * (f 1 ^ one * (f 0 ^ none' * 1))
powers f f0 f1 f2 none one two start first second third none' e0 e1 e2 e s a b c = rw (c, b, a, s, e0, e1, e2, e) refl

-- the counts alone decide a product
pub same-by_counts : (draws : Draws) (f : ℕ → ℕ) (os others : List ℕ) → AreOf draws os → AreOf draws others → product_by f os ≡ product_by f others
same-by_counts draws f os others of of' = sym (counted-product draws f os of) ∙ counted-product draws f others of'
