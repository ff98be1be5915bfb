-- Which words are a `totals` and which an `audit`.
use Rattle.std.specs.Prelude.{◌≡◌, ℕ, List, [], ◌∷◌, codes}
use Rattle.vx_words.specs.Samples.{IsSeed, IsSize}
use Rattle.vx_words.specs.Words.{IsArgument}

-- what the words ask for: the totals of a report; or its audit by the words of a generator with a seed, so many, and what
-- hands read
pub data Asked : Type 0 where
  Totals : List ℕ → Asked
  Audit : List ℕ → List ℕ → ℕ → List ℕ → Asked

-- the names of the inputs that this takes, in their order
abbrev pub names_of : Asked → List (List ℕ)
names_of (Totals report) = report ∷ []
names_of (Audit report seed size hand) = report ∷ hand ∷ []

-- `totals REPORT`
pub record SpellsTotals (words : List (List ℕ)) (report : List ℕ) : Type 0 where
  pub words_are : words ≡ codes "totals" ∷ report ∷ []
  pub is_argument : IsArgument report

-- five words, `audit` in front, the second and the last of which may be arguments
pub record HasAuditForm (words : List (List ℕ)) : Type 0 where
  pub report : List ℕ
  pub seed_word : List ℕ
  pub size_word : List ℕ
  pub hand : List ℕ
  pub words_are : words ≡ codes "audit" ∷ report ∷ seed_word ∷ size_word ∷ hand ∷ []
  pub is_argument : IsArgument report
  pub hand_is_argument : IsArgument hand

-- `audit REPORT SEED SIZE HAND`
pub record SpellsAudit (words : List (List ℕ)) (report seed : List ℕ) (size : ℕ) (hand : List ℕ) : Type 0 where
  pub form : HasAuditForm words
  pub report_is : form.report ≡ report
  pub is_seed : IsSeed form.seed_word seed
  pub is_size : IsSize form.size_word size
  pub hand_is : form.hand ≡ hand

-- the words ask for that
abbrev pub Asks : List (List ℕ) → Asked → Type 0
Asks words (Totals report) = SpellsTotals words report
Asks words (Audit report seed size hand) = SpellsAudit words report seed size hand

-- the words ask for nothing
abbrev pub AsksNothing : List (List ℕ) → Type 0
AsksNothing words = (asked : Asked) → Asks words asked → ⊥
