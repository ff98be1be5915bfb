-- The names by which parts of a report refer to each other. This project's profile of NIST SP 1500-103.
use Rattle.std.specs.Prelude.{ℕ, List, ◌++◌, ◌∷◌, codes}
use Rattle.std.specs.Fmt.{decimal}
use Rattle.vx_events.specs.declared.key.Key.{Key}

-- words of a name, a hyphen between
abbrev pub hyphened : List ℕ → List ℕ → List ℕ
hyphened first second = first ++ 45 ∷ second

abbrev pub device_name : List ℕ → List ℕ
device_name device = codes "device-" ++ device

abbrev pub precinct_name : List ℕ → List ℕ
precinct_name id = codes "precinct-" ++ id

abbrev pub contest_name : List ℕ → List ℕ
contest_name contest = codes "contest-" ++ contest

-- an option of a contest, by its number
abbrev pub candidate_name : List ℕ → ℕ → List ℕ
candidate_name contest option = codes "candidate-" ++ hyphened contest (decimal option)

abbrev pub selection_name : List ℕ → ℕ → List ℕ
selection_name contest option = codes "selection-" ++ hyphened contest (decimal option)

-- a sheet: its batch and its number
abbrev pub sheet_name : Key → List ℕ
sheet_name key = hyphened key.batch (decimal key.number)

abbrev pub snapshot_name : Key → List ℕ
snapshot_name key = codes "snapshot-" ++ sheet_name key
