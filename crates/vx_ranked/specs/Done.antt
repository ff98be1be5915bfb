-- How far a `ranked` has come.
use Rattle.std.specs.Prelude.{◌≡◌, Ok}
use Rattle.vx_command.specs.Done.{Taken, Held, IsDone}
use Rattle.vx_ranked.specs.Outcome.{RankedOutcome, as_command}
use Rattle.vx_ranked.specs.Status.{Ended, answer_of}

-- The acts are done up to some place, as those of a command are: all of them, and it came to what the outcome says; or
-- they broke off there.
pub record IsRankedDone (outcome : RankedOutcome) (taken taken_now : Taken) (held held_now : Held) (ended : Ended) : Type 0 where
  pub acts : IsDone (as_command outcome) taken taken_now held held_now (answer_of ended)
  pub ends : answer_of ended ≡ Ok tt → ended ≡ outcome.ends

-- the same of one that has no act of the keeper: whatever a keeper holds, it holds still
abbrev pub IsRankedWritten : RankedOutcome → Taken → Taken → Ended → Type 0
IsRankedWritten outcome taken taken_now ended = (held : Held) → IsRankedDone outcome taken taken_now held held ended
