-- Members of an object: needed ones and optional ones.
use Rattle.std.specs.Prelude.{ℕ, Bool, false, List, [], ◌∷◌, ◌++◌, length, nat_le, if◌then◌else◌, Option, Some, None, Result, Ok, Err, codes}
use Rattle.serde_json.specs.Data.{Data}
use Rattle.serde_json.specs.Find.{get}
use Rattle.vx_json.specs.Paths.{member_path}
use Rattle.vx_base.specs.Results.{◌>>=◌}
use Rattle.vx_json.specs.Reading.{need_in, text_in, whole_in, list_in, flag_in}
use Rattle.vx_election.specs.declared.fault.ElectionFault.{ElectionFault}
use Rattle.vx_election.specs.declared.fault.ElectionFault.TheVariants.{TooMany}
use Rattle.vx_election.specs.Faults.{of_json}
use Rattle.vx_election.specs.Ids.{new_id_in, reference_in}

-- an optional member, and what stands for one that isn't there
abbrev pub optional : {A : Type 0} → Option Data → (Data → Result A ElectionFault) → A → Result A ElectionFault
optional None read otherwise = Ok otherwise
optional (Some value) read otherwise = read value

-- a needed text
unfoldable pub text_member : Data → List ℕ → List ℕ → ℕ → ℕ → Result (List ℕ) ElectionFault
text_member value path name low high = do
  member ← of_json (need_in value path name)
  of_json (text_in member (member_path path name) low high)

-- an optional text
unfoldable pub optional_text : Data → List ℕ → List ℕ → ℕ → ℕ → List ℕ → Result (List ℕ) ElectionFault
optional_text value path name low high otherwise = optional (get name value) (λ member. of_json (text_in member (member_path path name) low high)) otherwise

-- a needed whole number
unfoldable pub whole_member : Data → List ℕ → List ℕ → ℕ → ℕ → Result ℕ ElectionFault
whole_member value path name low high = do
  member ← of_json (need_in value path name)
  of_json (whole_in member (member_path path name) low high)

-- an optional flag, else false
unfoldable pub optional_flag : Data → List ℕ → List ℕ → Result Bool ElectionFault
optional_flag value path name = optional (get name value) (λ member. of_json (flag_in member (member_path path name))) false

-- the id of an object, which none before it in its list has
unfoldable pub id_member : Data → List ℕ → List (List ℕ) → Result (List ℕ) ElectionFault
id_member value path ids = do
  member ← of_json (need_in value path (codes "id"))
  new_id_in member (member_path path (codes "id")) ids

-- a needed reference
unfoldable pub reference_member : Data → List ℕ → List ℕ → List (List ℕ) → Result ℕ ElectionFault
reference_member value path name ids = do
  member ← of_json (need_in value path name)
  reference_in member (member_path path name) ids

-- an optional reference
unfoldable pub optional_reference : Data → List ℕ → List ℕ → List (List ℕ) → Result (Option ℕ) ElectionFault
optional_reference value path name ids = optional (get name value) (λ member. reference_in member (member_path path name) ids >>= λ place. Ok (Some place)) None

-- a list with no more elements than that
unfoldable pub list_up_to : Data → List ℕ → ℕ → Result (List Data) ElectionFault
list_up_to value path limit = do
  list ← of_json (list_in value path)
  if nat_le (length list) limit then Ok list else Err (TooMany path (length list))

-- a needed list with no more elements than that
unfoldable pub list_member : Data → List ℕ → List ℕ → ℕ → Result (List Data) ElectionFault
list_member value path name limit = do
  member ← of_json (need_in value path name)
  list_up_to member (member_path path name) limit

-- an optional list with no more elements than that, else the empty one
unfoldable pub optional_list : Data → List ℕ → List ℕ → ℕ → Result (List Data) ElectionFault
optional_list value path name limit = optional (get name value) (λ member. list_up_to member (member_path path name) limit) []

-- each element in order, read after those before it
abbrev pub each_of : {A : Type 0} → (List A → Data → Result A ElectionFault) → List A → List Data → Result (List A) ElectionFault
each_of read found [] = Ok found
each_of read found (value ∷ values) = read found value >>= λ one. each_of read (found ++ one ∷ []) values
