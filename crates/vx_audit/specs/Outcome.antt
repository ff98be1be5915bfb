-- What `totals` and `audit` do: they take their inputs in the order of the words, each of which may end them, and then
-- write their text.
use Rattle.std.specs.Prelude.{ℕ, ◌++◌, ◌∷◌, [], List, length, nat_lt, if◌then◌else◌, Option, Some, None, Result}
use Rattle.std.specs.Prelude as std
use Rattle.vx_tally.specs.declared.report.Report.{Report}
use Rattle.vx_tally.specs.declared.fault.ReportFault.{ReportFault}
use Rattle.vx_tally.specs.Reading.{report_in_bytes}
use Rattle.vx_audit.specs.declared.hand.HandLine.{HandLine}
use Rattle.vx_audit.specs.declared.hand.HandFault.{HandFault}
use Rattle.vx_audit.specs.Audit.{audit_text}
use Rattle.vx_audit.specs.Hand.{hand_of}
use Rattle.vx_audit.specs.Sample.{sample_of}
use Rattle.vx_audit.specs.Totals.{totals_text}
use Rattle.vx_io.specs.Outside.{Files}
use Rattle.vx_command.specs.Acts.{Act, Take, Write, Outcome, input_limit}
use Rattle.vx_audit.specs.declared.status.AuditStatus.{AuditStatus}
use Rattle.vx_audit.specs.declared.status.AuditStatus.TheVariants.{Ok, NoInput, TooLong}
use Rattle.vx_audit.specs.Status.{answer_of, hand_status, report_status}
use Rattle.vx_audit.specs.Words.{Asked, Totals, Audit}

-- the acts of a command, and the status behind the last of them where nothing fails
pub record AuditOutcome : Type 0 where
  pub acts : List Act
  pub ends : AuditStatus

-- the same as that of a command
abbrev pub as_command : AuditOutcome → Outcome
as_command outcome = record { acts = outcome.acts; ends = answer_of outcome.ends }

-- a command that ends here
abbrev pub ended : AuditStatus → AuditOutcome
ended status = record { acts = []; ends = status }

-- a command whose work is to write one text
abbrev pub writes : List ℕ → AuditOutcome
writes text = record { acts = Write text ∷ []; ends = Ok }

-- acts before those of an outcome
abbrev pub after : List Act → AuditOutcome → AuditOutcome
after acts outcome = record { acts = acts ++ outcome.acts; ends = outcome.ends }

-- the input of a word is taken, and what comes next with its bytes
abbrev pub once_taken : ℕ → Option (List ℕ) → (List ℕ → AuditOutcome) → AuditOutcome
once_taken word None rest = after (Take word ∷ []) (ended (NoInput word))
once_taken word (Some bytes) rest =
    after (Take word ∷ []) (if nat_lt input_limit (length bytes) then ended (TooLong word (length bytes)) else rest bytes)

-- what comes next with a report, unless it is refused
abbrev pub once_read : Result Report ReportFault → (Report → AuditOutcome) → AuditOutcome
once_read (std.Err fault) rest = ended (report_status fault)
once_read (std.Ok report) rest = rest report

-- what comes next with what hands read, unless it is refused
abbrev pub once_handed : Result (List HandLine) HandFault → (List HandLine → AuditOutcome) → AuditOutcome
once_handed (std.Err fault) rest = ended (hand_status fault)
once_handed (std.Ok lines) rest = rest lines

-- the report, which is word 1, is taken and read
abbrev pub with_report : Option (List ℕ) → (Report → AuditOutcome) → AuditOutcome
with_report file rest = once_taken 1 file (λ bytes. once_read (report_in_bytes bytes) rest)

-- what hands read of it, which is word 4, is taken and read
abbrev pub with_hand : Report → Option (List ℕ) → (List HandLine → AuditOutcome) → AuditOutcome
with_hand report file rest = once_taken 4 file (λ bytes. once_handed (hand_of report bytes) rest)

-- the text of an audit is written
abbrev pub audited : List ℕ → ℕ → Report → List HandLine → AuditOutcome
audited seed size report lines = writes (audit_text report lines (sample_of seed size (length report.records)))

-- what the words ask for
abbrev pub asked_outcome : Asked → Files → AuditOutcome
asked_outcome (Totals report) files = with_report (files report) (λ given. writes (totals_text given))
asked_outcome (Audit report seed size hand) files =
    with_report (files report) (λ given. with_hand given (files hand) (audited seed size given))
