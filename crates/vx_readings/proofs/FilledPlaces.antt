-- Places that are filled in one after another.
use Rattle.std.proofs.Common.{◌≡◌, ◌<◌, ◌≤◌, ◌+◌, ℕ, List, [], ◌∷◌, ◌++◌, length, take, cond, Option, Some, None, arith, refl, sym, ap, ◌∙◌, append_assoc}
use Rattle.std.specs.Prelude.{◌==◌, option_map}
use Rattle.std.proofs.lemmas.List.{append-nil}
use Rattle.vx_base.proofs.Numbers.{equal-yes, equal-no}
use Rattle.vx_grid.specs.declared.paper.Paper.{Paper}
use Rattle.vx_grid.specs.declared.places.Point.{Point}
use Rattle.vx_grid.specs.Borders.{MarkPlaces}
use Rattle.vx_grid.specs.Marks.{marks}
use Rattle.vx_readings.specs.Lines.{place_in, all_as, border_by}
use Rattle.vx_readings.specs.Words.{◌>>=◌}

-- the words before the rest spell the first k places
pub record FilledTo (words rest : List (List ℕ)) (places : List Point) (k : ℕ) : Type 0 where
  pub all : all_as place_in words ≡ option_map (λ (more : List Point). take k places ++ more) (all_as place_in rest)
  pub count : length words ≡ k + length rest

-- the border of some places
abbrev bordered : Paper → List Point → MarkPlaces
bordered paper places = record { paper = paper; places = places }

-- if there are as many words as the paper has marks
abbrev sized_border : Paper → List (List ℕ) → List Point → Option MarkPlaces
sized_border paper words places = cond (length words == marks paper) (Some (bordered paper places)) None

border-sized : (paper : Paper) (words : List (List ℕ)) (spelled : Option (List Point)) → length words ≡ marks paper
    → (spelled >>= sized_border paper words) ≡ option_map (bordered paper) spelled
border-sized paper words None is = refl
border-sized paper words (Some places) is = rw (equal-yes (length words) (marks paper) is) refl

border-unsized : (paper : Paper) (words : List (List ℕ)) (spelled : Option (List Point)) → (length words ≡ marks paper → ⊥)
    → (spelled >>= sized_border paper words) ≡ None
border-unsized paper words None other = refl
border-unsized paper words (Some places) other = rw (equal-no (length words) (marks paper) other) refl

-- another number of words says no border
pub border_by-other : (paper : Paper) (words : List (List ℕ)) → (length words ≡ marks paper → ⊥) → border_by paper words ≡ None
unfolding border_by
border_by-other paper words other = border-unsized paper words (all_as place_in words) other

module _ (paper : Paper) (words rest : List (List ℕ)) (places : List Point) (k : ℕ) (filled : FilledTo words rest places k) where
  -- too few words
  pub filled-short : rest ≡ [] → k < marks paper → border_by paper words ≡ None
  filled-short none less =
      let few : length rest ≡ 0 = ap length none in
      border_by-other paper words (λ same. omega (arith, filled.count, few))

  -- too many
  pub filled-long : (word : List ℕ) (more : List (List ℕ)) → rest ≡ word ∷ more → marks paper ≤ k → border_by paper words ≡ None
  filled-long word more some all =
      let many : length rest ≡ length (word ∷ more) = ap length some in
      border_by-other paper words (λ same. omega (arith, filled.count, many))

  -- a word that spells no place
  pub filled-bad : (word : List ℕ) (more : List (List ℕ)) → rest ≡ word ∷ more → place_in word ≡ None → border_by paper words ≡ None
  unfolding border_by all_as
  filled-bad word more some bad =
      let none : all_as place_in rest ≡ None =
      ap (all_as place_in) some ∙ ap (λ (spelled : Option Point). spelled >>= (λ (value : Point). option_map (λ (values : List Point). value ∷ values) (all_as place_in more))) bad in
      let all : all_as place_in words ≡ None = filled.all ∙ ap (option_map (λ (more : List Point). take k places ++ more)) none in
      ap (λ (spelled : Option (List Point)). spelled >>= sized_border paper words) all

  -- all of them
  pub filled-all : rest ≡ [] → k ≡ marks paper → border_by paper words ≡ Some (record { paper = paper; places = take (marks paper) places })
  unfolding border_by all_as
  filled-all none full =
      let few : length rest ≡ 0 = ap length none in
      let all : all_as place_in words ≡ Some (take k places) =
      filled.all ∙ ap (λ (words : List (List ℕ)). option_map (λ (more : List Point). take k places ++ more) (all_as place_in words)) none ∙ ap Some (append-nil (take k places)) in
      border-sized paper words (all_as place_in words) (omega (arith, filled.count, few))
      ∙ ap (option_map (bordered paper)) all
      ∙ ap (λ (n : ℕ). Some (bordered paper (take n places))) full

  one-more : (p : Point) (spelled : Option (List Point)) (now : List Point) → take (k + 1) now ≡ take k places ++ p ∷ []
      → option_map (λ (more : List Point). take k places ++ more) (option_map (λ (values : List Point). p ∷ values) spelled)
      ≡ option_map (λ (more : List Point). take (k + 1) now ++ more) spelled
  one-more p None now is = refl
  one-more p (Some values) now is =
      ap Some (sym (ap (λ (front : List Point). front ++ values) is ∙ append_assoc (take k places) (p ∷ []) values))

  -- one place more
  pub filled-more : (word : List ℕ) (more : List (List ℕ)) (p : Point) (now : List Point) → rest ≡ word ∷ more → place_in word ≡ Some p
      → take (k + 1) now ≡ take k places ++ p ∷ [] → FilledTo words more now (k + 1)
  unfolding all_as
  filled-more word more p now some spells is =
      let many : length rest ≡ length (word ∷ more) = ap length some in
      record {
        all =
            filled.all
            ∙ ap (λ (words : List (List ℕ)). option_map (λ (more : List Point). take k places ++ more) (all_as place_in words)) some
            ∙ ap (λ (spelled : Option Point). option_map (λ (more : List Point). take k places ++ more) (spelled >>= (λ (value : Point). option_map (λ (values : List Point). value ∷ values) (all_as place_in more)))) spells
            ∙ one-more p (all_as place_in more) now is;
        count = omega (arith, filled.count, many);
      }
