-- For which inputs a command asks, and in which order.
use Rattle.std.specs.Prelude.{◌≡◌, ◌+◌, ◌<◌, ◌≤◌, ℕ, Bool, true, false, List, [], ◌∷◌, ◌++◌, get_or, length, take}
use Rattle.vx_io.specs.declared.outside.Inputs.{Ghosts as InputsOf}
use Rattle.vx_io.specs.Asking.{Question, Asked, IsTaking}

-- questions that take these inputs, one after the other, each whole or a front of it
abbrev pub AreTakings : List (List ℕ) → List Question → Type 0
AreTakings [] questions = questions ≡ []
AreTakings (name ∷ names) questions =
    (first : List Question) × (rest : List Question) × (questions ≡ first ++ rest) × IsTaking name first × AreTakings names rest

-- inputs were asked for these names, in order, each once, and for nothing else: for all of them, or for a front of them
pub record Asks {I : Type 0} (i : InputsOf I) (names : List (List ℕ)) (before now : I) (all : Bool) : Type 0 where
  pub taken : List (List ℕ)
  pub left : List (List ℕ)
  pub are : names ≡ taken ++ left
  pub whole : all ≡ true → left ≡ []
  pub questions : List Question
  pub takings : AreTakings taken questions
  pub asked : Asked (i.asked before) (i.asked now) questions

-- Laws for the proofs of commands.
pub record AskLaws {I : Type 0} (i : InputsOf I) : Type 0 where
  -- nothing was asked for
  pub nothing : (names : List (List ℕ)) (before : I) → Asks i names before before false
  pub none : (before : I) (all : Bool) → Asks i [] before before all
  -- what asked for all of them did so however the rest ends, and what has no end yet asked for a front of more
  pub ended : (names : List (List ℕ)) (a b : I) (all : Bool) → Asks i names a b true → Asks i names a b all
  pub broken : (name : List ℕ) (names : List (List ℕ)) (a b : I) (all : Bool) → Asks i (name ∷ []) a b all → Asks i (name ∷ names) a b false
  -- an input was taken, and then the rest
  pub then : (name : List ℕ) (names : List (List ℕ)) (a b c : I) (all : Bool) → Asks i (name ∷ []) a b true → Asks i names b c all → Asks i (name ∷ names) a c all
  -- some were, and then the rest, or a front of them all
  pub further : (names more : List (List ℕ)) (a b c : I) (all : Bool) → Asks i names a b true → Asks i more b c all → Asks i (names ++ more) a c all
  pub front : (names more : List (List ℕ)) (a b : I) (all : Bool) → Asks i names a b all → Asks i (names ++ more) a b false
  -- inputs that are taken one after the other: one more of them, the one with which that breaks off, and the last
  pub one_more : (names : List (List ℕ)) (index : ℕ) (name other : List ℕ) (a b c : I) → index < length names → name ≡ get_or names index other → Asks i (take index names) a b true → Asks i (name ∷ []) b c true → Asks i (take (index + 1) names) a c true
  pub one_breaks : (names : List (List ℕ)) (index : ℕ) (name other : List ℕ) (a b c : I) (all : Bool) → index < length names → name ≡ get_or names index other → Asks i (take index names) a b true → Asks i (name ∷ []) b c all → Asks i names a c false
  pub all_taken : (names : List (List ℕ)) (index : ℕ) (a b : I) (all : Bool) → length names ≤ index → Asks i (take index names) a b true → Asks i names a b all
