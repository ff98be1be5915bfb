-- What a command leaves of the records that a keeper holds: those that were there, and then its own in order.
use Rattle.std.specs.Prelude.{◌≡◌, ℕ, false, List, ◌++◌, None, Some}
use Rattle.std.specs.List.{flat_map}
use Rattle.vx_command.specs.Acts.{Answer, Outcome, records_of}
use Rattle.vx_command.specs.Done.{Taken, Held, IsDone}
use Rattle.vx_command.specs.Texts.{broke_off}

-- the records that are there where all acts of an outcome were done over some
abbrev pub records_behind : List (List ℕ) → Outcome → List (List ℕ)
records_behind records outcome = records ++ flat_map records_of outcome.acts

-- a command left a front of them, and all of them unless it broke off
pub record LeavesRecords (outcome : Outcome) (records left : List (List ℕ)) (answer : Answer) : Type 0 where
  pub rest : List (List ℕ)
  pub front : records_behind records outcome ≡ left ++ rest
  pub whole : broke_off answer ≡ false → left ≡ records_behind records outcome

-- however far its acts are done, so it is, and it answers as its outcome says unless it broke off; and all of them may
-- be done
pub record RecordsInOrder : Type 0 where
  pub leaves : (outcome : Outcome) (taken taken_now : Taken) (records left : List (List ℕ)) (answer : Answer)
      → IsDone outcome taken taken_now (Some records) (Some left) answer → LeavesRecords outcome records left answer
  pub ends : (outcome : Outcome) (taken taken_now : Taken) (held held_now : Held) (answer : Answer)
      → IsDone outcome taken taken_now held held_now answer → broke_off answer ≡ false → answer ≡ outcome.ends
  pub all_may_be_done : (outcome : Outcome) (records : List (List ℕ))
      → IsDone outcome None None (Some records) (Some (records_behind records outcome)) outcome.ends
