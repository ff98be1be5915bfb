-- Numbers that are drawn from a generator. This project's own rule.
use Rattle.std.specs.Prelude.{ℕ, suc, zero, ◌%◌, List, [], ◌∷◌}
use Rattle.rand_pcg.specs.Lcg.{Lcg}
use Rattle.rand_pcg.specs.Pcg.{pcg32}

-- a number below a bound: the generator's next word modulo the bound, and the generator after it
abbrev pub draw : ℕ → Lcg → ℕ × Lcg
draw bound g = ((pcg32 g).0 % bound, (pcg32 g).1)

-- so many numbers below a bound, one after the other
abbrev pub draws : ℕ → ℕ → Lcg → List ℕ × Lcg
draws zero bound g = ([], g)
draws (suc many) bound g = ((draw bound g).0 ∷ (draws many bound (draw bound g).1).0, (draws many bound (draw bound g).1).1)

-- a place in a rectangle of so many columns and rows, by its offsets from the upper left: the column is drawn first
abbrev pub draw_place : ℕ → ℕ → Lcg → (ℕ × ℕ) × Lcg
draw_place width height g =
    (((draw width g).0, (draw height (draw width g).1).0), (draw height (draw width g).1).1)

-- so many of them
abbrev pub draw_places : ℕ → ℕ → ℕ → Lcg → List (ℕ × ℕ) × Lcg
draw_places zero width height g = ([], g)
draw_places (suc many) width height g = (
  (draw_place width height g).0 ∷ (draw_places many width height (draw_place width height g).1).0,
  (draw_places many width height (draw_place width height g).1).1,
)

-- what is drawn for each element of a list in turn
abbrev pub draw_all : {A B : Type 0} → (A → Lcg → B × Lcg) → List A → Lcg → List B × Lcg
draw_all one [] g = ([], g)
draw_all one (x ∷ xs) g = ((one x g).0 ∷ (draw_all one xs (one x g).1).0, (draw_all one xs (one x g).1).1)
