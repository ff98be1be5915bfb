-- What `decide` does: it takes its election, reads its journal, begins it where it is empty, takes its script, and
-- keeps the event of each line and writes that it is done.
use Rattle.std.specs.Prelude.{ℕ, ◌+◌, if◌then◌else◌, List, [], ◌∷◌, ◌++◌, codes, Option, Some, None, Result, Ok, Err}
use Rattle.std.specs.Fmt.{decimal}
use Rattle.vx_io.specs.Outside.{Files}
use Rattle.vx_election_model.specs.declared.election.Election.{Election}
use Rattle.vx_events.specs.declared.event.Event.{Event}
use Rattle.vx_refusals.specs.declared.decision.DecisionFault.TheVariants.{Bad, Refused}
use Rattle.vx_center.specs.Replies.{reply_of, is_done}
use Rattle.vx_records.specs.Records.{record_of}
use Rattle.vx_command.specs.declared.halt.Halt.{Halt}
use Rattle.vx_command.specs.declared.halt.Halt.TheVariants.{Decision}
use Rattle.vx_command.specs.Acts.{Act, Append, Write, Outcome, after, finished, goes_on, once_taken}
use Rattle.vx_command.specs.Elections.{once_election}
use Rattle.vx_journal.specs.declared.journal.Journal.{Journal}
use Rattle.vx_journal.specs.Keeping.{begin_acts}
use Rattle.vx_journal.specs.Steps.{once_read}
use Rattle.vx_script.specs.Script.{event_in, lines_of, script_limit}

-- `line L done`
abbrev pub done_line : ℕ → List ℕ
done_line number = codes "line " ++ decimal number ++ codes " done" ++ 10 ∷ []

-- an event that the counting machine accepts, or why the command halts at its line
abbrev pub accepted : Election → List Event → ℕ → Event → Result Event Halt
accepted election kept number event =
    if is_done (reply_of election kept event)
    then Ok event
    else Err (Decision number (Refused (reply_of election kept event)))

-- the same of what a line says
abbrev pub said : Election → List Event → ℕ → Option Event → Result Event Halt
said election kept number None = Err (Decision number Bad)
said election kept number (Some event) = accepted election kept number event

-- the record of a line's event is appended, and then its line is written
abbrev pub line_acts : ℕ → Event → List Act
line_acts number event = Append (record_of event) ∷ Write (done_line number) ∷ []

-- a line with a number, and then what comes next behind its event; the first line that is refused ends the command
abbrev pub line_outcome : Election → List Event → ℕ → List ℕ → (Event → Outcome) → Outcome
line_outcome election kept number line next =
    goes_on (said election kept number (event_in election line)) (λ event. after (line_acts number event) (next event))

-- lines, the first of which has a number; empty lines are passed over
abbrev pub lines_outcome : Election → List Event → ℕ → List (List ℕ) → Outcome
lines_outcome election kept number [] = finished
lines_outcome election kept number ([] ∷ lines) = lines_outcome election kept (number + 1) lines
lines_outcome election kept number ((b ∷ line) ∷ lines) =
    line_outcome election kept number (b ∷ line) (λ event. lines_outcome election (kept ++ event ∷ []) (number + 1) lines)

-- a script, by the events that are kept before it
abbrev pub script_outcome : Election → List Event → Option (List ℕ) → Outcome
script_outcome election kept file =
    once_taken 2 script_limit file (λ script. lines_outcome election kept 1 (lines_of script))

-- a journal that was read is begun before the script is taken
abbrev pub begun_outcome : Election → Option (List ℕ) → Journal → Outcome
begun_outcome election file journal = after (begin_acts journal) (script_outcome election journal.center.events file)

-- `decide` of the script under a name for the election under another, over the records of its journal
abbrev pub decide_outcome : List ℕ → List ℕ → Files → List (List ℕ) → Outcome
decide_outcome election script files records =
    once_election (files election) (λ given. once_read given records (begun_outcome given (files script)))
