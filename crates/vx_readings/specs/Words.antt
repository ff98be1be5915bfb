-- Words that are read one after another.
use Rattle.std.specs.Prelude.{ℕ, if◌then◌else◌, List, [], ◌∷◌, Option, Some, None, option_map, option_and_then}
use Rattle.std.specs.Str.{bytes_eq}
use Rattle.vx_readings.specs.Numbers.{number_in}

-- what is read behind something that was read, if it was
infixl 10 ◌>>=◌
abbrev pub ◌>>=◌ : {A B : Type 0} → Option A → (A → Option B) → Option B
read >>= next = option_and_then next read

-- the words behind a first one that has to be there
abbrev pub behind : List ℕ → List (List ℕ) → Option (List (List ℕ))
behind wanted [] = None
behind wanted (word ∷ words) = if bytes_eq word wanted then Some words else None

-- what a first word is, with the words behind it
abbrev pub first_as : {A : Type 0} → (List ℕ → Option A) → List (List ℕ) → Option (A × List (List ℕ))
first_as form [] = None
first_as form (word ∷ words) = option_map (λ value. (value, words)) (form word)

-- a number and the words behind it
abbrev pub number_first : List (List ℕ) → Option (ℕ × List (List ℕ))
number_first words = first_as number_in words

-- a number behind its name, and the words behind it
unfoldable pub named_number : List ℕ → List (List ℕ) → Option (ℕ × List (List ℕ))
named_number name words = behind name words >>= number_first

-- what the last word is
abbrev pub last_as : {A : Type 0} → (List ℕ → Option A) → List (List ℕ) → Option A
last_as form [] = None
last_as form (word ∷ []) = form word
last_as form (word ∷ more ∷ words) = None
