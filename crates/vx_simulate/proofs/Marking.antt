-- What is drawn for the contests of a page.
use Rattle.std.proofs.Common.{◌≡◌, ℕ, ◌+◌, Bool, List, [], ◌∷◌, ◌++◌, filter, ap, ◌∙◌, arith}
use Rattle.std.specs.List.{range_with_len}
use Rattle.std.proofs.lemmas.List.Elements.{filter-append}
use Rattle.rand_pcg.specs.Lcg.{Lcg}
use Rattle.vx_base.proofs.Ranges.{range-more}
use Rattle.vx_simulate.specs.Draws.{draw_all}
use Rattle.vx_simulate.proofs.OneMore.{all-append}

-- one number more
pub more-drawn : {B : Type 0} (test : ℕ → Bool) (one : ℕ → Lcg → B × Lcg) (n : ℕ) (g : Lcg)
    → draw_all one (filter test (range_with_len 0 (n + 1))) g
    ≡ ((draw_all one (filter test (range_with_len 0 n)) g).0 ++ (draw_all one (filter test (n ∷ [])) (draw_all one (filter test (range_with_len 0 n)) g).1).0, (draw_all one (filter test (n ∷ [])) (draw_all one (filter test (range_with_len 0 n)) g).1).1)
more-drawn {B = B} test one n g =
    let same : 0 + n ≡ n = omega arith in
    ap (λ (ns : List ℕ). draw_all one (filter test ns) g) (range-more 0 n ∙ ap (λ (k : ℕ). range_with_len 0 n ++ k ∷ []) same)
    ∙ ap (λ (ns : List ℕ). draw_all one ns g) (filter-append test (range_with_len 0 n) (n ∷ []))
    ∙ all-append one (filter test (range_with_len 0 n)) (filter test (n ∷ [])) g
