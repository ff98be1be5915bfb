-- How far `decide` has come behind a line.
use Rattle.std.specs.Prelude.{◌≡◌, ℕ, ◌+◌, List, [], ◌∷◌, ◌++◌, Ok, Err}
use Rattle.vx_election_model.specs.declared.election.Election.{Election}
use Rattle.vx_events.specs.declared.event.Event.{Event}
use Rattle.vx_command.specs.Acts.{Answer, Outcome, after, goes_on}
use Rattle.vx_command.specs.Done.{Taken, Held, IsDone, ComesTo}
use Rattle.vx_command_decide.specs.Outcome.{accepted, line_acts, line_outcome, lines_outcome}

-- a line's event is kept, and the command has come to what comes next
pub record IsDecided (election : Election) (kept kept_now : List Event) (number : ℕ) (line : List ℕ)
    (taken taken_now : Taken) (held held_now : Held) : Type 0 where
  pub event : Event
  pub kept_is : kept_now ≡ kept ++ event ∷ []
  pub comes : (next : Event → Outcome)
      → ComesTo (line_outcome election kept number line next) (next event) taken taken_now held held_now

-- so it is, or the command halts at the line
abbrev pub Decides : Election → List Event → List Event → ℕ → List ℕ → Taken → Taken → Held → Held → Answer → Type 0
Decides election kept kept_now number line taken taken_now held held_now (Ok done) =
    IsDecided election kept kept_now number line taken taken_now held held_now
Decides election kept kept_now number line taken taken_now held held_now (Err cause) =
    (next : Event → Outcome) → IsDone (line_outcome election kept number line next) taken taken_now held held_now (Err cause)

-- the same of an event that a line says
abbrev pub event_outcome : Election → List Event → ℕ → Event → (Event → Outcome) → Outcome
event_outcome election kept number event next =
    goes_on (accepted election kept number event) (λ given. after (line_acts number given) (next given))

pub record IsAccepted (election : Election) (kept kept_now : List Event) (number : ℕ) (event : Event)
    (taken taken_now : Taken) (held held_now : Held) : Type 0 where
  pub kept_is : kept_now ≡ kept ++ event ∷ []
  pub comes : (next : Event → Outcome)
      → ComesTo (event_outcome election kept number event next) (next event) taken taken_now held held_now

abbrev pub Accepts : Election → List Event → List Event → ℕ → Event → Taken → Taken → Held → Held → Answer → Type 0
Accepts election kept kept_now number event taken taken_now held held_now (Ok done) =
    IsAccepted election kept kept_now number event taken taken_now held held_now
Accepts election kept kept_now number event taken taken_now held held_now (Err cause) =
    (next : Event → Outcome) → IsDone (event_outcome election kept number event next) taken taken_now held held_now (Err cause)

-- a line of a script that is left: the command has come to the lines behind it, or it halts there
abbrev pub TakesLine : Election → List Event → List Event → ℕ → List ℕ → Taken → Taken → Held → Held → Answer → Type 0
TakesLine election kept kept_now number line taken taken_now held held_now (Ok done) =
    (lines : List (List ℕ))
    → ComesTo (lines_outcome election kept number (line ∷ lines)) (lines_outcome election kept_now (number + 1) lines)
    taken taken_now held held_now
TakesLine election kept kept_now number line taken taken_now held held_now (Err cause) =
    (lines : List (List ℕ))
    → IsDone (lines_outcome election kept number (line ∷ lines)) taken taken_now held held_now (Err cause)
