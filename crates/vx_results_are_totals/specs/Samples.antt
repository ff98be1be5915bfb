-- What `sample` does with a journal, beside what `audit` does with its export.
use Rattle.std.specs.Prelude.{◌≡◌, ◌≤◌, ℕ, List, ◌∷◌, length, Some, Ok}
use Rattle.vx_io.specs.Outside.{Files}
use Rattle.vx_election_model.specs.declared.election.Election.{Election}
use Rattle.vx_events.specs.declared.event.Event.{Event}
use Rattle.vx_cvr.specs.Report.{report_of}
use Rattle.vx_command.specs.Acts.{Act, Answer, Outcome, ReadJournal, Take, input_limit}
use Rattle.vx_command.specs.Elections.{election_in}
use Rattle.vx_command.specs.Status as command
use Rattle.vx_audit.specs.declared.status.AuditStatus.{AuditStatus}
use Rattle.vx_audit.specs.Outcome.{AuditOutcome, asked_outcome}
use Rattle.vx_audit.specs.Status as audit
use Rattle.vx_audit.specs.Words.{Audit}
use Rattle.vx_report_read.specs.Texts.{AreOfWords}
use Rattle.vx_sampling.specs.SampleOutcome.{sample_outcome}
use Rattle.vx_journal.specs.Replay.{replay_of}
use Rattle.vx_words.specs.Samples.{seed_bytes}

-- a status of `audit` tells what an answer of `sample` does: the number that the program ends with, and the line that it says
pub record TellsSame (status : AuditStatus) (answer : Answer) : Type 0 where
  pub number : audit.number_of status ≡ command.number_of (command.status_of answer)
  pub line : audit.line_of status ≡ command.line_of (command.status_of answer)

-- A `sample` takes its election and reads its journal, an `audit` takes its report; behind that both do the same acts: what
-- hands read is taken, and the same text is written, or none. They end with the same number and line.
pub record DoTheSame (sample : Outcome) (audited : AuditOutcome) : Type 0 where
  pub acts : List Act
  pub sample_does : sample.acts ≡ Take 1 ∷ ReadJournal ∷ acts
  pub audit_does : audited.acts ≡ Take 1 ∷ acts
  pub tells : TellsSame audited.ends sample.ends

-- so it is of any election and records that are a journal of it, and of a file that is the export of what the journal keeps,
-- of any moment and device, no longer than an input may be, where seed, size and what hands read are the same
abbrev pub SamplesAreTheAudits : Type 0
SamplesAreTheAudits =
    (election : Election) (records : List (List ℕ)) (kept : List Event) (moment device : List ℕ)
    (source name seed : List ℕ) (size : ℕ) (hand : List ℕ) (files : Files)
    → election_in (files source) ≡ Ok election → replay_of election records ≡ Ok kept
    → AreOfWords moment device → files name ≡ Some (report_of election kept moment device)
    → length (report_of election kept moment device) ≤ input_limit
    → DoTheSame (sample_outcome source seed size hand files records)
    (asked_outcome (Audit name (seed_bytes seed) size hand) files)
