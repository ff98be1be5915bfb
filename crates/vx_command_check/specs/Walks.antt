-- How far `check` has come behind a page.
use Rattle.std.specs.Prelude.{ℕ, ◌+◌, length, Option, Some, None, Result, Ok, Err}
use Rattle.vx_plane.specs.Plane.{Page as Bitmap}
use Rattle.vx_election_model.specs.declared.election.Election.{Election}
use Rattle.vx_readings.specs.declared.fault.ReadingsFault.{ReadingsFault}
use Rattle.vx_readings.specs.declared.said.SaidPage.{SaidPage}
use Rattle.vx_readings.specs.Readings.{Unread, Readings, readings_left}
use Rattle.vx_command.specs.declared.halt.Halt.{Halt}
use Rattle.vx_command.specs.Acts.{Answer, Outcome}
use Rattle.vx_command.specs.Done.{Taken, IsWritten, WritesTo}
use Rattle.vx_command_check.specs.Answers.{readings_halt}
use Rattle.vx_base.specs.Refusals.{Gives}
use Rattle.vx_command.specs.Steps.{is_no_memory}
use Rattle.vx_command_check.specs.Outcome.{page_outcome, ends_behind}

-- the line of a page is written, and the command has come to what comes next; or it halts
abbrev pub ChecksPage : Election → ℕ → Bitmap → SaidPage → Taken → Taken → Answer → Type 0
ChecksPage election number image said taken taken_now (Ok done) =
    (next : Outcome) → WritesTo (page_outcome election number image said next) next taken taken_now
ChecksPage election number image said taken taken_now (Err cause) =
    (next : Outcome) → IsWritten (page_outcome election number image said next) taken taken_now (Err cause)

-- how many pages readings have, of which some are left, if no line leaves the grammar
abbrev pub counted_unless : Option ReadingsFault → ℕ → Result ℕ Halt
counted_unless None count = Ok count
counted_unless (Some fault) count = Err (readings_halt fault)

abbrev pub pages_counted : Unread → Result ℕ Halt
pages_counted unread = counted_unless (readings_left unread).fault (unread.pages + length (readings_left unread).pages)

-- the scans have ended, of which so many images are done: what the readings that are left bring about
abbrev pub RestAnswers : ℕ → Readings → Answer → Type 0
RestAnswers held readings answer = Gives is_no_memory answer (ends_behind held readings.fault readings.pages)
