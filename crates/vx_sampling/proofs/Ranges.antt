-- Lists over the first numbers, one number more at a time.
use Rattle.std.proofs.Common.{◌≡◌, ℕ, ◌+◌, Bool, cond, List, [], ◌∷◌, ◌++◌, ap, sym, ◌∙◌, arith}
use Rattle.std.specs.List.{filter, range_with_len}
use Rattle.std.proofs.lemmas.List.Elements.{filter-append}
use Rattle.vx_base.proofs.Ranges.{range-more}

filter-range-more : (p : ℕ → Bool) (n : ℕ) → filter p (range_with_len 0 (n + 1)) ≡ filter p (range_with_len 0 n) ++ cond (p n) (n ∷ []) []
filter-range-more p n =
    let at : 0 + n ≡ n = omega arith in
    ap (filter p) (range-more 0 n)
    ∙ filter-append p (range_with_len 0 n) ((0 + n) ∷ [])
    ∙ ap (λ (k : ℕ). filter p (range_with_len 0 n) ++ cond (p k) (k ∷ []) []) at

-- the loop's step: what is kept so far, and one number more where it passes
pub one_kept : (p : ℕ → Bool) (so_far now : List ℕ) (n : ℕ) (passes : Bool) → so_far ≡ filter p (range_with_len 0 n) → passes ≡ p n
    → now ≡ so_far ++ cond passes (n ∷ []) [] → now ≡ filter p (range_with_len 0 (n + 1))
one_kept p so_far now n passes before is step =
    step
    ∙ ap (λ (b : Bool). so_far ++ cond b (n ∷ []) []) is
    ∙ ap (λ (kept : List ℕ). kept ++ cond (p n) (n ∷ []) []) before
    ∙ sym (filter-range-more p n)
