-- One draw more after those that were drawn.
use Rattle.std.proofs.Common.{◌≡◌, ℕ, ◌+◌, List, [], ◌∷◌, ◌++◌, refl, ap, ◌∙◌}
use Rattle.std.specs.List.{range_with_len}
use Rattle.vx_base.proofs.Ranges.{range-more}
use Rattle.rand_pcg.specs.Lcg.{Lcg}
use Rattle.vx_simulate.specs.Draws.{draw_all}

pub one-more : {A B : Type 0} (one : A → Lcg → B × Lcg) (xs : List A) (x : A) (g : Lcg)
    → draw_all one (xs ++ x ∷ []) g ≡ ((draw_all one xs g).0 ++ (one x (draw_all one xs g).1).0 ∷ [], (one x (draw_all one xs g).1).1)
one-more one [] x g = refl
one-more {B = B} one (y ∷ ys) x g = ap (λ (p : List B × Lcg). ((one y g).0 ∷ p.0, p.1)) (one-more one ys x (one y g).1)

-- for one number more
pub number-more : {B : Type 0} (one : ℕ → Lcg → B × Lcg) (first n : ℕ) (g : Lcg)
    → draw_all one (range_with_len first (n + 1)) g ≡ ((draw_all one (range_with_len first n) g).0 ++ (one (first + n) (draw_all one (range_with_len first n) g).1).0 ∷ [], (one (first + n) (draw_all one (range_with_len first n) g).1).1)
number-more one first n g =
    ap (λ (ns : List ℕ). draw_all one ns g) (range-more first n)
    ∙ one-more one (range_with_len first n) (first + n) g
