-- JSON values in short: texts, whole numbers, lists, and objects by their members.
use Rattle.std.specs.Prelude.{ℕ, List, [], ◌∷◌}
use Rattle.serde_json.specs.Data.{Data, number, unsigned, string, array, object, Members, no_members, member}
use Rattle.serde_json.specs.View.{items_of}

abbrev pub text : List ℕ → Data
text bytes = string bytes

abbrev pub whole : ℕ → Data
whole n = number (unsigned n)

abbrev pub list : List Data → Data
list values = array (items_of values)

-- members by name, which stand in the order of the names' bytes
abbrev pub members : List (List ℕ × Data) → Members
members [] = no_members
members (named ∷ others) = member named.0 named.1 (members others)

abbrev pub described : List (List ℕ × Data) → Data
described named = object (members named)
