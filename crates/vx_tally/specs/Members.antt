-- Members of an object, each of which is needed.
use Rattle.std.specs.Prelude.{ℕ, List, [], ◌∷◌, ◌++◌, length, nat_le, slice_get, if◌then◌else◌, Result, Ok, Err, ok_or}
use Rattle.serde_json.specs.Data.{Data}
use Rattle.vx_json.specs.Paths.{member_path}
use Rattle.vx_base.specs.Results.{◌>>=◌}
use Rattle.vx_json.specs.Reading.{need_in, whole_in, list_in}
use Rattle.vx_tally.specs.declared.fault.ReportFault.{ReportFault}
use Rattle.vx_tally.specs.declared.fault.ReportFault.TheVariants.{OutOfRange}
use Rattle.vx_tally.specs.Faults.{of_json}
use Rattle.vx_tally.specs.Ids.{new_id_in, reference_in, new_reference_in}

-- how many elements a list has at most
abbrev pub list_limit : ℕ
list_limit = 1000000

-- how many contests a record has at most, and how many selections a contest of it
abbrev pub record_limit : ℕ
record_limit = 1000

-- how many votes, overvotes or undervotes there are at most
abbrev pub vote_limit : ℕ
vote_limit = 50

-- an id that none of those before it is
unfoldable pub id_member : Data → List ℕ → List ℕ → List (List ℕ) → Result (List ℕ) ReportFault
id_member value path name ids = do
  member ← of_json (need_in value path name)
  new_id_in member (member_path path name) ids

-- a reference to one of those ids, as its place
unfoldable pub reference_member : Data → List ℕ → List ℕ → List (List ℕ) → Result ℕ ReportFault
reference_member value path name ids = do
  member ← of_json (need_in value path name)
  reference_in member (member_path path name) ids

-- the same, where none of the places before it is that one
unfoldable pub new_reference_member : Data → List ℕ → List ℕ → List (List ℕ) → List ℕ → Result ℕ ReportFault
new_reference_member value path name ids found = do
  member ← of_json (need_in value path name)
  new_reference_in member (member_path path name) ids found

-- a number of votes
unfoldable pub votes_member : Data → List ℕ → List ℕ → Result ℕ ReportFault
votes_member value path name = do
  member ← of_json (need_in value path name)
  of_json (whole_in member (member_path path name) 0 vote_limit)

-- a list with no more elements than that
unfoldable pub list_member : Data → List ℕ → List ℕ → ℕ → Result (List Data) ReportFault
list_member value path name limit = do
  member ← of_json (need_in value path name)
  list ← of_json (list_in member (member_path path name))
  if nat_le (length list) limit then Ok list else Err (OutOfRange (member_path path name))

-- the first element of a list that has one
unfoldable pub first_member : Data → List ℕ → List ℕ → Result Data ReportFault
first_member value path name = do
  list ← list_member value path name list_limit
  ok_or (slice_get list 0) (OutOfRange (member_path path name))

-- an element read after those before it, and put behind them
abbrev pub with_next : {A : Type 0} → (List A → Data → Result A ReportFault) → List A → Data → Result (List A) ReportFault
with_next read found value = read found value >>= λ one. Ok (found ++ one ∷ [])

-- each element in order, read after those before it
abbrev pub each_of : {A : Type 0} → (List A → Data → Result A ReportFault) → List A → List Data → Result (List A) ReportFault
each_of read found [] = Ok found
each_of read found (value ∷ values) = with_next read found value >>= λ more. each_of read more values
