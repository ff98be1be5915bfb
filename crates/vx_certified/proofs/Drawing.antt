-- What holds of all that is drawn, and what is counted of it.
use Rattle.std.proofs.Common.{◌≡◌, ℕ, suc, ◌+◌, Bool, true, cond, List, [], ◌∷◌, length, refl, ap, arith}
use Rattle.std.specs.Prelude.{All, count_by}
use Rattle.std.proofs.lemmas.List.Elements.{All-nil, All-cons, All-head, All-tail}
use Rattle.std.proofs.lemmas.List.Sums.{sum_by-cons}
use Rattle.rand_pcg.specs.Lcg.{Lcg}
use Rattle.vx_simulate.specs.Draws.{draw_all}

pub all-drawn : {A B : Type 0} (P : A → Type 0) (Q : B → Type 0) (one : A → Lcg → B × Lcg) → ((x : A) (g : Lcg) → P x → Q (one x g).0) → (xs : List A) (g : Lcg) → All P xs → All Q (draw_all one xs g).0
all-drawn P Q one each [] g all = All-nil Q
all-drawn P Q one each (x ∷ xs) g all =
    All-cons Q (one x g).0 (draw_all one xs (one x g).1).0
    (each x g (All-head P x xs all))
    (all-drawn P Q one each xs (one x g).1 (All-tail P x xs all))

pub many-drawn : {A B : Type 0} (one : A → Lcg → B × Lcg) (xs : List A) (g : Lcg) → length (draw_all one xs g).0 ≡ length xs
many-drawn one [] g = refl
many-drawn one (x ∷ xs) g = ap suc (many-drawn one xs (one x g).1)

-- where a test holds of all, all are counted
pub count-all : {A : Type 0} (p : A → Bool) (xs : List A) → All (λ (x : A). p x ≡ true) xs → count_by p xs ≡ length xs
count-all p [] all = refl
count-all {A = A} p (x ∷ xs) all =
    let here : p x ≡ true = All-head (λ (x : A). p x ≡ true) x xs all in
    let rest : count_by p xs ≡ length xs = count-all p xs (All-tail (λ (x : A). p x ≡ true) x xs all) in
    let counts : ◌≡◌ {A = ℕ} (cond (p x) 1 0) 1 = ap (λ (b : Bool). cond b 1 0) here in
    let whole : count_by p (x ∷ xs) ≡ cond (p x) 1 0 + count_by p xs = sum_by-cons (λ (x : A). cond (p x) 1 0) x xs in
    omega (arith, whole, counts, rest)
