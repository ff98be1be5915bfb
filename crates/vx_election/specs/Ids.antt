-- Ids: their form, and the place of an id in a list.
use Rattle.std.specs.Prelude.{ℕ, suc, ◌&&◌, ◌||◌, ◌==◌, Bool, List, [], ◌∷◌, length, bytes_eq, if◌then◌else◌, Option, Some, None, Result, Ok, Err, is_some, ok_or, option_map}
use Rattle.std.specs.List.{list_all, list_any}
use Rattle.serde_json.specs.Data.{Data}
use Rattle.vx_base.specs.Results.{◌>>=◌}
use Rattle.vx_json.specs.Reading.{string_in, is_within}
use Rattle.vx_election.specs.declared.fault.ElectionFault.{ElectionFault}
use Rattle.vx_election.specs.declared.fault.ElectionFault.TheVariants.{OutOfRange, RepeatedId, UnknownId}
use Rattle.vx_election.specs.Faults.{of_json}
use Rattle.vx_election_model.specs.Ids.{is_id}

-- the first place of an id in a list of ids
abbrev pub place_in : List ℕ → List (List ℕ) → Option ℕ
place_in id [] = None
place_in id (first ∷ ids) = if bytes_eq id first then Some 0 else option_map (λ k. suc k) (place_in id ids)

-- whether a place is among those
abbrev pub is_among : ℕ → List ℕ → Bool
is_among place found = list_any (λ p. place == p) found

-- an id
unfoldable pub id_in : Data → List ℕ → Result (List ℕ) ElectionFault
id_in value path = do
  text ← of_json (string_in value path)
  if is_id text then Ok text else Err (OutOfRange path)

-- an id that none of those before it in its list has
unfoldable pub new_id_in : Data → List ℕ → List (List ℕ) → Result (List ℕ) ElectionFault
new_id_in value path ids = do
  id ← id_in value path
  if is_some (place_in id ids) then Err (RepeatedId path id) else Ok id

-- the place of the id that is referred to
unfoldable pub reference_in : Data → List ℕ → List (List ℕ) → Result ℕ ElectionFault
reference_in value path ids = do
  id ← id_in value path
  ok_or (place_in id ids) (UnknownId path id)

-- the same, where none of the places before it in its list is that one
unfoldable pub new_reference_in : Data → List ℕ → List (List ℕ) → List ℕ → Result ℕ ElectionFault
new_reference_in value path ids found = do
  id ← id_in value path
  place ← ok_or (place_in id ids) (UnknownId path id)
  if is_among place found then Err (RepeatedId path id) else Ok place
