-- Counts of findings, and the figures that are made of them.
use Rattle.std.proofs.Common.{◌≡◌, ℕ, ◌+◌, ◌≤◌, ◌==◌, Bool, cond, List, [], ◌∷◌, length, map, refl, ap, sym, ◌∙◌}
use Rattle.std.specs.Prelude.{All, count_by, sum_by, Option}
use Rattle.std.proofs.lemmas.List.{length-map}
use Rattle.std.proofs.lemmas.List.Sums.{sum_by-cons}
use Rattle.std.proofs.lemmas.List.Elements.{All-map}
use Rattle.vx_risk.specs.Bound.{is_at_most, millionths_of}
use Rattle.vx_risk.specs.Counts.{AreOf}
use Rattle.vx_risk.specs.Enough.{enough_of}
use Rattle.vx_risk.specs.declared.draws.Draws.{Draws}
use Rattle.vx_sampling.specs.declared.finding.Finding.{Finding}
use Rattle.vx_sampling.specs.declared.rows.Figures.{Figures}
use Rattle.vx_sampling.specs.Findings.{votes_of, is_missing}
use Rattle.vx_sampling.specs.Rows.{figures_of}

sum-map : {X Y : Type 0} (g : Y → ℕ) (f : X → Y) (xs : List X) → sum_by g (map f xs) ≡ sum_by (λ x. g (f x)) xs
sum-map g f [] = refl
sum-map g f (x ∷ xs) =
    sum_by-cons g (f x) (map f xs) ∙ ap (λ (n : ℕ). g (f x) + n) (sum-map g f xs) ∙ sym (sum_by-cons (λ y. g (f y)) x xs)

module _ (findings : List Finding) where
  counted : (votes : ℕ) → count_by (λ other. other == votes) (map votes_of findings) ≡ count_by (λ finding. votes_of finding == votes) findings
  counted votes = sum-map (λ other. cond (other == votes) 1 0) votes_of findings

  -- they are the overstatements of draws with those counts
  pub are_of : (draws : Draws) → draws.drawn ≡ length findings → draws.one ≡ count_by (λ finding. votes_of finding == 1) findings
      → draws.two ≡ count_by (λ finding. votes_of finding == 2) findings → All (λ finding. votes_of finding ≤ 2) findings
      → AreOf draws (map votes_of findings)
  are_of draws all ones twos small = record {
    all = length-map findings votes_of ∙ sym all;
    ones = counted 1 ∙ sym ones;
    twos = counted 2 ∙ sym twos;
    small = All-map (λ votes. votes ≤ 2) votes_of findings small;
  }

  pub figures_are : (records limit margin one two missing millionths : ℕ) (is_met : Bool) (enough : Option ℕ)
      → one ≡ count_by (λ finding. votes_of finding == 1) findings → two ≡ count_by (λ finding. votes_of finding == 2) findings
      → missing ≡ count_by is_missing findings → millionths ≡ millionths_of records margin (map votes_of findings)
      → is_met ≡ is_at_most records margin (map votes_of findings) limit → enough ≡ enough_of records margin limit
      → (let made : Figures = record { margin = margin; one = one; two = two; missing = missing; millionths = millionths; is_met = is_met; enough = enough } in made)
      ≡ figures_of records limit margin findings
  figures_are records limit margin one two missing millionths is_met enough a b m e f g = rw (a, b, m, e, f, g) refl
