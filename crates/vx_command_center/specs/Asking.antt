-- What `center` asks of its inputs, and in which order: its election, then how many bytes the inputs of all items
-- have, and then these inputs, item after item.
use Rattle.std.specs.Prelude.{◌≡◌, ◌⊎◌, ℕ, Bool, true, List, [], ◌∷◌, ◌++◌, map}
use Rattle.vx_io.specs.declared.outside.Inputs.{Ghosts as InputsOf}
use Rattle.vx_io.specs.Asking.{Question, SizeOf, Asked}
use Rattle.vx_words.specs.declared.command.ItemWord.{ItemWord}
use Rattle.vx_command.specs.Asking.{AreTakings}
use Rattle.vx_command_center.specs.Outcome.{name_in}

-- the names of the items' inputs, in order
abbrev pub names_of : List ItemWord → List (List ℕ)
names_of items = map name_in items

-- names are a front of others
abbrev pub AreFront : List (List ℕ) → List (List ℕ) → Type 0
AreFront front names = (left : List (List ℕ)) × (names ≡ front ++ left)

-- inputs were asked how many bytes these names have, once each, in order, and nothing else: a front of them, or
-- all of them where `all` is true
pub record AsksSizes {I : Type 0} (i : InputsOf I) (names : List (List ℕ)) (before now : I) (all : Bool)
    : Type 0 where
  pub sized : List (List ℕ)
  pub are_front : AreFront sized names
  pub whole : all ≡ true → sized ≡ names
  pub asked : Asked (i.asked before) (i.asked now) (map SizeOf sized)

-- questions of items' inputs under these names: the sizes of a front of them, and behind the sizes of all the takings
-- of a front of them; both of all of them where `all` is true
pub record AreOfItems (names : List (List ℕ)) (all : Bool) (questions : List Question) : Type 0 where
  pub sized : List (List ℕ)
  pub taken : List (List ℕ)
  pub sized_are_front : AreFront sized names
  pub taken_are_front : AreFront taken names
  pub sizes_before : (taken ≡ []) ⊎ (sized ≡ names)
  pub whole : all ≡ true → (sized ≡ names) × (taken ≡ names)
  pub takings : List Question
  pub are_takings : AreTakings taken takings
  pub are : questions ≡ map SizeOf sized ++ takings

-- inputs were asked so for items, and for nothing else
pub record AsksItems {I : Type 0} (i : InputsOf I) (items : List ItemWord) (before now : I) (all : Bool)
    : Type 0 where
  pub questions : List Question
  pub of_items : AreOfItems (names_of items) all questions
  pub asked : Asked (i.asked before) (i.asked now) questions

-- inputs were asked for the election under a name, and behind it so for items, and for nothing else; for the
-- election and for all items where `all` is true
pub record AsksAsCenter {I : Type 0} (i : InputsOf I) (election : List ℕ) (items : List ItemWord)
    (before now : I) (all : Bool) : Type 0 where
  pub taken : List (List ℕ)
  pub taken_are_front : AreFront taken (election ∷ [])
  pub takings : List Question
  pub are_takings : AreTakings taken takings
  pub questions : List Question
  pub of_items : AreOfItems (names_of items) all questions
  pub election_before : (questions ≡ []) ⊎ (taken ≡ election ∷ [])
  pub whole : all ≡ true → taken ≡ election ∷ []
  pub asked : Asked (i.asked before) (i.asked now) (takings ++ questions)
