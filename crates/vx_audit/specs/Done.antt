-- How far a `totals` or an `audit` has come.
use Rattle.std.specs.Prelude.{◌≡◌, ◌≢◌, ℕ, false, IfErr, List, Option, Result, Ok, Err}
use Rattle.vx_tally.specs.declared.report.Report.{Report}
use Rattle.vx_audit.specs.declared.hand.HandLine.{HandLine}
use Rattle.vx_io.specs.declared.outside.Inputs.{Ghosts as InputsOf}
use Rattle.vx_command.specs.Acts.{Answer}
use Rattle.vx_command.specs.Devices.{LeavesInputs, is_write_fault}
use Rattle.vx_command.specs.Done.{Taken, IsWritten, WritesTo}
use Rattle.vx_audit.specs.declared.status.AuditStatus.{AuditStatus}
use Rattle.vx_audit.specs.declared.status.AuditStatus.TheVariants.{Usage}
use Rattle.vx_audit.specs.declared.status.AuditStatus.TheVariants as variants
use Rattle.vx_audit.specs.Outcome.{AuditOutcome, as_command, with_hand, with_report}
use Rattle.vx_audit.specs.Status.{answer_of}

-- The acts are done up to some place, as those of a command are: all of them, and the status is the outcome's; or they
-- broke off there.
pub record IsAuditDone (outcome : AuditOutcome) (taken taken_now : Taken) (status : AuditStatus) : Type 0 where
  pub acts : IsWritten (as_command outcome) taken taken_now (answer_of status)
  pub ends : answer_of status ≡ Ok tt → status ≡ outcome.ends

-- it has come to the rest of its acts, and wrote nothing so far
pub record Comes (whole rest : AuditOutcome) (taken : Taken) : Type 0 where
  pub acts : WritesTo (as_command whole) (as_command rest) taken taken
  pub ends : whole.ends ≡ rest.ends

-- the report was taken and read, or the command ends there
abbrev pub TakesReport : Option (List ℕ) → Taken → Result Report AuditStatus → Type 0
TakesReport file taken (Ok report) = (rest : Report → AuditOutcome) → Comes (with_report file rest) (rest report) taken
TakesReport file taken (Err status) = (rest : Report → AuditOutcome) → IsAuditDone (with_report file rest) taken taken status

-- what hands read was taken and read, or the command ends there
abbrev pub TakesHand : Report → Option (List ℕ) → Taken → Result (List HandLine) AuditStatus → Type 0
TakesHand report file taken (Ok lines) =
    (rest : List HandLine → AuditOutcome) → Comes (with_hand report file rest) (rest lines) taken
TakesHand report file taken (Err status) =
    (rest : List HandLine → AuditOutcome) → IsAuditDone (with_hand report file rest) taken taken status

-- the answer of a command behind a step: it goes on, or ends there
abbrev pub step_answer : {A : Type 0} → Result A AuditStatus → Answer
step_answer (Ok given) = Ok tt
step_answer (Err status) = answer_of status

-- a step that takes and reads an input touches the inputs alone, and never answers that the words are no command, or that
-- all was done
pub record LeavesReading {I A : Type 0} (i : InputsOf I) (before now : I) (result : Result A AuditStatus) : Type 0 where
  pub inputs : LeavesInputs i before now (step_answer result)
  pub no_write_fault : is_write_fault (step_answer result) ≡ false
  pub no_usage : IfErr result (λ status. status ≢ Usage)
  pub no_end : IfErr result (λ status. status ≢ variants.Ok)
