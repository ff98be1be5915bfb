-- What a JSON value gives where a kind of value is wanted, or the fault with its path.
use Rattle.std.specs.Prelude.{ℕ, ◌&&◌, Bool, List, [], ◌∷◌, length, nat_le, chars, if◌then◌else◌, Result, Ok, Err, is_some, ok_or, option_map, option_and_then}
use Rattle.serde_json.specs.Data.{Data, Items, no_items, item}
use Rattle.serde_json.specs.Find.{get, as_array, as_bool, as_number, as_object, as_str, as_u64}
use Rattle.vx_json.specs.declared.fault.JsonFault.{JsonFault}
use Rattle.vx_json.specs.declared.fault.JsonFault.TheVariants.{Missing, WrongKind, OutOfRange}
use Rattle.vx_base.specs.Results.{◌>>=◌}
use Rattle.vx_json.specs.Paths.{member_path}

-- an object's member that has to be there
abbrev pub need_in : Data → List ℕ → List ℕ → Result Data JsonFault
need_in value path name = if is_some (as_object value) then ok_or (get name value) (Missing (member_path path name)) else Err (WrongKind path)

-- a text of any length
abbrev pub string_in : Data → List ℕ → Result (List ℕ) JsonFault
string_in value path = ok_or (as_str value) (WrongKind path)

-- a number within a range, both ends included
abbrev pub is_within : ℕ → ℕ → ℕ → Bool
is_within low high n = nat_le low n && nat_le n high

-- a text with a number of characters (Unicode scalar values) in the range
abbrev pub text_in : Data → List ℕ → ℕ → ℕ → Result (List ℕ) JsonFault
text_in value path low high = do
  text ← string_in value path
  if is_within low high (length (chars text)) then Ok text else Err (OutOfRange path)

-- a whole number in the range
abbrev pub whole_in : Data → List ℕ → ℕ → ℕ → Result ℕ JsonFault
whole_in value path low high = do
  number ← ok_or (option_and_then as_u64 (as_number value)) (WrongKind path)
  if is_within low high number then Ok number else Err (OutOfRange path)

-- the elements of an array as a list
abbrev pub elements : Items → List Data
elements no_items = []
elements (item value items) = value ∷ elements items

-- a list's elements
abbrev pub list_in : Data → List ℕ → Result (List Data) JsonFault
list_in value path = ok_or (option_map elements (as_array value)) (WrongKind path)

-- true or false
abbrev pub flag_in : Data → List ℕ → Result Bool JsonFault
flag_in value path = ok_or (as_bool value) (WrongKind path)
