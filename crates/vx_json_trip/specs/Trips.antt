-- JSON values that are read back from their text.
use Rattle.std.specs.Prelude.{◌≡◌, ℕ, ◌<◌, ◌≤◌, ◌^◌, pos, negsuc, ⊤, List, [], ◌∷◌, ◌++◌, Some}
use Rattle.std.specs.Cmp.Lexicographic.{slice_cmp}
use Rattle.std.specs.Ordering.{nat_cmp}
use Rattle.std.specs.List.Sorted.{IsStrictlySortedBy}
use Rattle.serde_json.specs.Data.{Num, unsigned, negative, float, Data, null, boolean, number, string, array, object, Items, no_items, item, Members, no_members, member, put, depth}
use Rattle.serde_json.specs.Read.{max_depth, read}
use Rattle.serde_json.specs.Written.{compact_text}

-- an integer of 64 bits, with a sign or without
abbrev pub IsWhole : Num → Type 0
IsWhole (unsigned n) = n < 2 ^ 64
IsWhole (negative (pos n)) = ⊥
IsWhole (negative (negsuc n)) = n < 2 ^ 63
IsWhole (float x) = ⊥

-- each number is one
abbrev mutual
  pub HasWholeNumbers : Data → Type 0
  HasWholeNumbers null = ⊤
  HasWholeNumbers (boolean b) = ⊤
  HasWholeNumbers (number n) = IsWhole n
  HasWholeNumbers (string s) = ⊤
  HasWholeNumbers (array ds) = ItemsHaveWholeNumbers ds
  HasWholeNumbers (object ms) = MembersHaveWholeNumbers ms

  pub ItemsHaveWholeNumbers : Items → Type 0
  ItemsHaveWholeNumbers no_items = ⊤
  ItemsHaveWholeNumbers (item d ds) = HasWholeNumbers d × ItemsHaveWholeNumbers ds

  pub MembersHaveWholeNumbers : Members → Type 0
  MembersHaveWholeNumbers no_members = ⊤
  MembersHaveWholeNumbers (member k d ms) = HasWholeNumbers d × MembersHaveWholeNumbers ms

-- the names of members
abbrev pub names : Members → List (List ℕ)
names no_members = []
names (member k d ms) = k ∷ names ms

-- the names of each object ascend by their bytes, so that none comes twice
abbrev mutual
  pub HasOrderedNames : Data → Type 0
  HasOrderedNames null = ⊤
  HasOrderedNames (boolean b) = ⊤
  HasOrderedNames (number n) = ⊤
  HasOrderedNames (string s) = ⊤
  HasOrderedNames (array ds) = ItemsHaveOrderedNames ds
  HasOrderedNames (object ms) = IsStrictlySortedBy (slice_cmp nat_cmp) (names ms) × MembersHaveOrderedNames ms

  pub ItemsHaveOrderedNames : Items → Type 0
  ItemsHaveOrderedNames no_items = ⊤
  ItemsHaveOrderedNames (item d ds) = HasOrderedNames d × ItemsHaveOrderedNames ds

  pub MembersHaveOrderedNames : Members → Type 0
  MembersHaveOrderedNames no_members = ⊤
  MembersHaveOrderedNames (member k d ms) = HasOrderedNames d × MembersHaveOrderedNames ms

-- each object with its members put in one after another: they ascend, and of equal names the last stays
abbrev mutual
  pub settled : Data → Data
  settled null = null
  settled (boolean b) = boolean b
  settled (number n) = number n
  settled (string s) = string s
  settled (array ds) = array (settled_items ds)
  settled (object ms) = object (settled_members ms no_members)

  pub settled_items : Items → Items
  settled_items no_items = no_items
  settled_items (item d ds) = item (settled d) (settled_items ds)

  -- behind those that are in
  pub settled_members : Members → Members → Members
  settled_members no_members found = found
  settled_members (member k d ms) found = settled_members ms (put k (settled d) found)

-- a value whose text is read
pub record IsReadable (d : Data) : Type 0 where
  pub whole : HasWholeNumbers d
  pub shallow : depth d ≤ max_depth

-- the law of texts
abbrev pub TextsAreRead : Type 0
TextsAreRead = (d : Data) → IsReadable d → read (compact_text d) ≡ Some (settled d)

-- the law of texts whose names are in order
abbrev pub TextsAreReadBack : Type 0
TextsAreReadBack = (d : Data) → IsReadable d → HasOrderedNames d → read (compact_text d) ≡ Some d

-- the law of lines
abbrev pub LinesAreReadBack : Type 0
LinesAreReadBack = (d : Data) → IsReadable d → HasOrderedNames d → read (compact_text d ++ 10 ∷ []) ≡ Some d
