-- JSON values whose strings are UTF-8.
use Rattle.std.specs.Prelude.{◌≡◌, ⊤, ℕ, List, Some}
use Rattle.std.specs.Str.{IsUtf8}
use Rattle.serde_json.specs.Data.{Data, null, boolean, number, string, array, object, Items, no_items, item, Members, no_members, member}
use Rattle.serde_json.specs.Read.{read}

-- each string is UTF-8, and so is the name of each member
abbrev mutual
  pub IsUtf8Value : Data → Type 0
  IsUtf8Value null = ⊤
  IsUtf8Value (boolean b) = ⊤
  IsUtf8Value (number n) = ⊤
  IsUtf8Value (string s) = IsUtf8 s
  IsUtf8Value (array ds) = AreUtf8Items ds
  IsUtf8Value (object ms) = AreUtf8Members ms

  pub AreUtf8Items : Items → Type 0
  AreUtf8Items no_items = ⊤
  AreUtf8Items (item d ds) = IsUtf8Value d × AreUtf8Items ds

  pub AreUtf8Members : Members → Type 0
  AreUtf8Members no_members = ⊤
  AreUtf8Members (member k d ms) = IsUtf8 k × IsUtf8Value d × AreUtf8Members ms

-- what is read of a text in UTF-8 is such a value
abbrev pub StringsAreUtf8 : Type 0
StringsAreUtf8 = (text : List ℕ) (d : Data) → IsUtf8 text → read text ≡ Some d → IsUtf8Value d
