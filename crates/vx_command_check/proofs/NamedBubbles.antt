-- Names of bubbles that are compared one after another.
use Rattle.std.proofs.Common.{◌≡◌, ◌≤◌, ◌+◌, ℕ, true, false, List, ◌∷◌, length, drop, Some, None, arith, refl, ap, ◌∙◌}
use Rattle.std.proofs.lemmas.List.{drop_all, drop-drop}
use Rattle.vx_layout.specs.declared.bubbles.Bubble.{Bubble}
use Rattle.vx_readings.specs.declared.said.BubbleName.{BubbleName}
use Rattle.vx_command_check.specs.Answers.{is_named, other_name}

-- the names before a place are those of the plan
abbrev pub NamedTo : ℕ → List BubbleName → List Bubble → ℕ → Type 0
NamedTo first names bubbles place =
    other_name first names bubbles ≡ other_name (first + place) (drop place names) (drop place bubbles)

module _ (first : ℕ) (names : List BubbleName) (bubbles : List Bubble) (place : ℕ) (before : NamedTo first names bubbles place) (name : BubbleName) where
  pub names-more : drop place names ≡ name ∷ drop (place + 1) names → is_named name (drop place bubbles) ≡ true → NamedTo first names bubbles (place + 1)
  names-more some is =
      let next : first + place + 1 ≡ first + (place + 1) = omega arith in
      let behind : drop 1 (drop place bubbles) ≡ drop (place + 1) bubbles = drop-drop 1 place bubbles in
      before
      ∙ ap (λ (rest : List BubbleName). other_name (first + place) rest (drop place bubbles)) some
      ∙ rw is (ap (λ (line : ℕ). other_name line (drop (place + 1) names) (drop 1 (drop place bubbles))) next
      ∙ ap (other_name (first + (place + 1)) (drop (place + 1) names)) behind)

  pub names-other : drop place names ≡ name ∷ drop (place + 1) names → is_named name (drop place bubbles) ≡ false → other_name first names bubbles ≡ Some (first + place)
  names-other some is =
      before
      ∙ ap (λ (rest : List BubbleName). other_name (first + place) rest (drop place bubbles)) some
      ∙ rw is refl

pub names-all : (first : ℕ) (names : List BubbleName) (bubbles : List Bubble) (place : ℕ) → NamedTo first names bubbles place → length names ≤ place
    → other_name first names bubbles ≡ None
names-all first names bubbles place before all =
    before ∙ ap (λ (rest : List BubbleName). other_name (first + place) rest (drop place bubbles)) (drop_all place names all)
