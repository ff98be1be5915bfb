-- What the sheets of a batch leave over, event by event.
use Rattle.std.specs.Prelude.{◌≡◌, ℕ, ◌+◌, ◌&&◌, nat_lt, if◌then◌else◌, bytes_eq, List, [], ◌∷◌, ◌++◌, length, map, filter, Some}
use Rattle.std.specs.List.{flat_map}
use Rattle.serde_json.specs.Data.{Data}
use Rattle.vx_election_model.specs.declared.election.Election.{Election}
use Rattle.vx_events.specs.declared.event.Event.{Event}
use Rattle.vx_events.specs.declared.event.Event.TheVariants.{Add, Claim, Release, Decide}
use Rattle.vx_events.specs.declared.key.Key.{Key}
use Rattle.vx_center.specs.Sheets.{Added, added_from}
use Rattle.vx_markup.specs.Json.{whole}
use Rattle.vx_desk.specs.Waits.{any_waits, waiting_contests, waiting_of, waits_in}

-- a sheet's number, if it is behind the first so many
abbrev pub missing_if : ℕ → Key → List Data
missing_if sheets key = if nat_lt sheets key.number then whole key.number ∷ [] else []

-- the number of the sheet that an event adds, if it is of the batch, waits and is missing
abbrev pub missing_by : Election → List Event → List ℕ → ℕ → Event → List Data
missing_by election kept batch sheets (Add key sheet) =
    if bytes_eq key.batch batch && any_waits election kept key (Some sheet) then missing_if sheets key else []
missing_by election kept batch sheets (Claim station key) = []
missing_by election kept batch sheets (Release station key) = []
missing_by election kept batch sheets (Decide station key contest decision) = []

-- how many contests wait on it
abbrev pub waiting_by : Election → List Event → List ℕ → Event → ℕ
waiting_by election kept batch (Add key sheet) =
    if bytes_eq key.batch batch && any_waits election kept key (Some sheet)
    then length (waiting_contests election kept key sheet)
    else 0
waiting_by election kept batch (Claim station key) = 0
waiting_by election kept batch (Release station key) = 0
waiting_by election kept batch (Decide station key contest decision) = 0

-- so much more is left over
pub record Grew (numbers : List Data) (contests : ℕ) (missing : List Data) (waiting : ℕ) (missing_now : List Data)
    (waiting_now : ℕ) : Type 0 where
  pub missing_is : missing_now ≡ missing ++ numbers
  pub waiting_is : waiting_now ≡ waiting + contests

-- what is left over of the sheets that events from a place on add
abbrev pub missing_from : Election → List Event → List ℕ → ℕ → ℕ → List Event → List Data
missing_from election kept batch sheets place events =
    map whole (map (λ (added : Added). added.key.number)
    (filter (λ (added : Added). nat_lt sheets added.key.number)
    (filter (waits_in election kept batch) (added_from place events))))

abbrev pub waiting_from : Election → List Event → List ℕ → ℕ → List Event → ℕ
waiting_from election kept batch place events =
    length (flat_map (waiting_of election kept) (filter (waits_in election kept batch) (added_from place events)))

-- what is left over so far, and what the events left leave over, are all
pub record IsSoFar (election : Election) (kept : List Event) (batch : List ℕ) (sheets place : ℕ) (rest : List Event)
    (missing : List Data) (waiting : ℕ) : Type 0 where
  pub numbers :
      missing ++ missing_from election kept batch sheets place rest ≡ missing_from election kept batch sheets 0 kept
  pub contests : waiting + waiting_from election kept batch place rest ≡ waiting_from election kept batch 0 kept
