-- Sums of whole numbers with a sign.
use Rattle.std.proofs.Common.{◌≡◌, ℕ, ◌+◌, List, [], ◌∷◌, ◌++◌, take, ℤ, ◌+ℤ◌, ap, ◌∙◌, arith}
use Rattle.std.specs.Prelude.{Some, slice_get}
use Rattle.std.proofs.lemmas.Int.{ints}
use Rattle.std.proofs.lemmas.List.{take_more}
use Rattle.std.proofs.lemmas.Option.{slice_get_within, get_or_from_slice_get}
use Rattle.vx_command_demo.specs.Sums.{int_sum_by}

pub signed-append : {A : Type 0} (number : A → ℤ) (xs ys : List A) → int_sum_by number (xs ++ ys) ≡ int_sum_by number xs +ℤ int_sum_by number ys
signed-append number [] ys = omega (arith, ints)
signed-append number (x ∷ xs) ys =
    let rest : int_sum_by number (xs ++ ys) ≡ int_sum_by number xs +ℤ int_sum_by number ys = signed-append number xs ys in
    omega (arith, ints, rest)

pub signed-one : {A : Type 0} (number : A → ℤ) (x : A) → int_sum_by number (x ∷ []) ≡ number x
signed-one number x = omega (arith, ints)

-- one element more of a list
pub signed-more : {A : Type 0} (number : A → ℤ) (xs : List A) (k : ℕ) (x : A) → slice_get xs k ≡ Some x
    → int_sum_by number (take (k + 1) xs) ≡ int_sum_by number (take k xs) +ℤ number x
signed-more {A = A} number xs k x at =
    let taken : take (k + 1) xs ≡ take k xs ++ x ∷ [] =
    take_more xs k x (slice_get_within xs k x at) ∙ ap (λ (y : A). take k xs ++ y ∷ []) (get_or_from_slice_get xs k x x at) in
    ap (int_sum_by number) taken
    ∙ (signed-append number (take k xs) (x ∷ [])
    ∙ ap (λ (z : ℤ). int_sum_by number (take k xs) +ℤ z) (signed-one number x))
