-- Ids of a report: their form, and the place of an id in a list.
use Rattle.std.specs.Prelude.{ℕ, ◌&&◌, ◌==◌, Bool, not, List, length, nat_le, bytes_eq, position, if◌then◌else◌, Option, Result, Ok, Err, is_some, ok_or}
use Rattle.std.specs.List.{list_all, list_any}
use Rattle.serde_json.specs.Data.{Data}
use Rattle.vx_base.specs.Results.{◌>>=◌}
use Rattle.vx_json.specs.Reading.{string_in}
use Rattle.vx_tally.specs.declared.fault.ReportFault.{ReportFault}
use Rattle.vx_tally.specs.declared.fault.ReportFault.TheVariants.{OutOfRange, RepeatedId, UnknownId}
use Rattle.vx_tally.specs.Faults.{of_json}

-- a character that can be seen, U+0021 to U+007E, and isn't the comma
abbrev pub is_id_character : ℕ → Bool
is_id_character byte = nat_le 33 byte && nat_le byte 126 && not (byte == 44)

-- 1 to 256 of them
unfoldable pub is_id : List ℕ → Bool
is_id text = nat_le 1 (length text) && nat_le (length text) 256 && list_all is_id_character text

-- the first place of an id in a list of ids
abbrev pub place_in : List ℕ → List (List ℕ) → Option ℕ
place_in id ids = position (bytes_eq id) ids

-- whether a place is among those
abbrev pub is_among : ℕ → List ℕ → Bool
is_among place found = list_any (λ p. place == p) found

-- an id
unfoldable pub id_in : Data → List ℕ → Result (List ℕ) ReportFault
id_in value path = do
  text ← of_json (string_in value path)
  if is_id text then Ok text else Err (OutOfRange path)

-- an id that none of those before it is
unfoldable pub new_id_in : Data → List ℕ → List (List ℕ) → Result (List ℕ) ReportFault
new_id_in value path ids = do
  id ← id_in value path
  if is_some (place_in id ids) then Err (RepeatedId path id) else Ok id

-- the place of the id that is referred to
unfoldable pub reference_in : Data → List ℕ → List (List ℕ) → Result ℕ ReportFault
reference_in value path ids = do
  id ← id_in value path
  ok_or (place_in id ids) (UnknownId path id)

-- the same, where none of the places before it is that one
unfoldable pub new_reference_in : Data → List ℕ → List (List ℕ) → List ℕ → Result ℕ ReportFault
new_reference_in value path ids found = do
  id ← id_in value path
  place ← ok_or (place_in id ids) (UnknownId path id)
  if is_among place found then Err (RepeatedId path id) else Ok place
