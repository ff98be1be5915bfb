-- Which words are a `gray`.
use Rattle.std.specs.Prelude.{◌≡◌, ℕ, List, ◌∷◌, codes}
use Rattle.vx_words.specs.Words.{AreScans}

-- the words are a `gray` of these scans, 1 to 64 of them, which may be arguments
pub record SpellsGray (words scans : List (List ℕ)) : Type 0 where
  pub words_are : words ≡ codes "gray" ∷ scans
  pub are_scans : AreScans scans

-- the words are no `gray`
abbrev pub NoGray : List (List ℕ) → Type 0
NoGray words = (scans : List (List ℕ)) → SpellsGray words scans → ⊥
