-- What inputs are asked, and in which order.
use Rattle.std.specs.Prelude.{◌≡◌, ◌<◌, ℕ, List, [], ◌∷◌, ◌++◌, map, Option, None, Some, MatchOption}

-- how many bytes a name has, or which it has from a place on
pub data Question : Type 0 where
  SizeOf : List ℕ → Question
  BytesFrom : List ℕ → ℕ → Question

-- the questions so far, where they are told
abbrev pub Questions : Type 0
Questions = Option (List Question)

-- these questions came behind those before, where they are told; whether they are doesn't change
abbrev pub Asked : Questions → Questions → List Question → Type 0
Asked old new more = MatchOption old (new ≡ None) (λ before. new ≡ Some (before ++ more))

-- pieces that begin at these places lie one behind the other, from a place on up to another
abbrev pub PiecesFrom : ℕ → List ℕ → ℕ → Type 0
PiecesFrom from [] to = from ≡ to
PiecesFrom from (place ∷ places) to = (place ≡ from) × ((next : ℕ) × (from < next) × PiecesFrom next places to)

-- pieces of a name were asked for, from the front up to a place
pub record AsksPieces (name : List ℕ) (to : ℕ) (old new : Questions) : Type 0 where
  pub places : List ℕ
  pub behind : PiecesFrom 0 places to
  pub asked : Asked old new (map (BytesFrom name) places)

-- questions that take an input, or a front of it: its size once, and then its bytes from the front, none twice
pub record IsTaking (name : List ℕ) (questions : List Question) : Type 0 where
  pub places : List ℕ
  pub to : ℕ
  pub behind : PiecesFrom 0 places to
  pub are : questions ≡ SizeOf name ∷ map (BytesFrom name) places

-- an input was asked for so
pub record AsksFor (name : List ℕ) (old new : Questions) : Type 0 where
  pub questions : List Question
  pub taking : IsTaking name questions
  pub asked : Asked old new questions
