-- Which words are a `ranked`.
use Rattle.std.specs.Prelude.{◌≡◌, ℕ, List, [], ◌∷◌, codes}
use Rattle.vx_words.specs.Words.{IsArgument}

-- the words are a `ranked` of these two, which may be arguments
pub record SpellsRanked (words : List (List ℕ)) (election ranked : List ℕ) : Type 0 where
  pub words_are : words ≡ codes "ranked" ∷ election ∷ ranked ∷ []
  pub election_is_argument : IsArgument election
  pub ranked_is_argument : IsArgument ranked

-- the words are no `ranked`
abbrev pub NoRanked : List (List ℕ) → Type 0
NoRanked words = (election ranked : List ℕ) → SpellsRanked words election ranked → ⊥
