-- Ids and lists of a file of ranked contests.
use Rattle.std.specs.Prelude.{ℕ, ◌==◌, Bool, List, length, bytes_eq, if◌then◌else◌, Result, Ok, Err}
use Rattle.std.specs.List.{list_any}
use Rattle.serde_json.specs.Data.{Data}
use Rattle.vx_base.specs.Results.{◌>>=◌}
use Rattle.vx_json.specs.Paths.{member_path}
use Rattle.vx_json.specs.Reading.{need_in, string_in, list_in, is_within}
use Rattle.vx_election_model.specs.Ids.{is_id}
use Rattle.vx_ranked.specs.declared.fault.RankedFault.{RankedFault}
use Rattle.vx_ranked.specs.declared.fault.RankedFault.TheVariants.{OutOfRange}
use Rattle.vx_ranked.specs.declared.groups.Group.{Group}
use Rattle.vx_ranked.specs.Faults.{of_json}

-- an id
unfoldable pub id_in : Data → List ℕ → Result (List ℕ) RankedFault
id_in value path = do
  text ← of_json (string_in value path)
  if is_id text then Ok text else Err (OutOfRange path)

-- a list with so many elements, both ends included
unfoldable pub list_member : Data → List ℕ → List ℕ → ℕ → ℕ → Result (List Data) RankedFault
list_member value path name low high = do
  member ← of_json (need_in value path name)
  list ← of_json (list_in member (member_path path name))
  if is_within low high (length list) then Ok list else Err (OutOfRange (member_path path name))

-- whether a group has an id
abbrev pub is_group : List Group → List ℕ → Bool
is_group groups id = list_any (λ (group : Group). bytes_eq group.id id) groups

-- whether a place is among those
abbrev pub is_among : ℕ → List ℕ → Bool
is_among place found = list_any (λ p. place == p) found

-- whether a group names the contest at a place
abbrev pub is_named : List Group → ℕ → Bool
is_named groups place = list_any (λ (group : Group). is_among place group.contests) groups
