-- What `results` writes of a journal, beside what `totals` writes of its export and `queue` of the journal.
use Rattle.std.specs.Prelude.{◌≡◌, ◌≤◌, ℕ, List, [], ◌∷◌, ◌++◌, length, Some}
use Rattle.vx_io.specs.Outside.{Files}
use Rattle.vx_election_model.specs.declared.election.Election.{Election}
use Rattle.vx_events.specs.declared.event.Event.{Event}
use Rattle.vx_center.specs.Histories.{IsHistory}
use Rattle.vx_cvr.specs.Report.{report_of}
use Rattle.vx_command.specs.Acts.{Take, Write, input_limit}
use Rattle.vx_audit.specs.declared.status.AuditStatus.TheVariants.{Ok}
use Rattle.vx_audit.specs.Outcome.{AuditOutcome, asked_outcome}
use Rattle.vx_audit.specs.Words.{Totals}
use Rattle.vx_command_queue.specs.Queue.{count_line, queue_lines}
use Rattle.vx_report_read.specs.Texts.{AreOfJournal, AreOfWords}
use Rattle.vx_results.specs.Results.{results_text, waiting_line}
use Rattle.vx_results.specs.Waiting.{waiting_in}

-- a command takes the input of word 1, writes a text, and ends well
abbrev pub taken_and_written : List ℕ → AuditOutcome
taken_and_written text = record { acts = Take 1 ∷ Write text ∷ []; ends = Ok }

-- what `totals` does with a file is to take it and to write the results of a history without their last line
pub record WritesResults (election : Election) (kept : List Event) (name : List ℕ) (files : Files) : Type 0 where
  pub text : List ℕ
  pub totals : asked_outcome (Totals name) files ≡ taken_and_written text
  pub results : results_text election kept ≡ text ++ waiting_line (length (waiting_in election kept))

-- so it is of a file that is the export of a journal, of any moment and device, no longer than an input may be
abbrev pub ResultsAreTheTotals : Type 0
ResultsAreTheTotals =
    (election : Election) (kept : List Event) (moment device name : List ℕ) (files : Files)
    → AreOfJournal election kept → AreOfWords moment device
    → files name ≡ Some (report_of election kept moment device)
    → length (report_of election kept moment device) ≤ input_limit
    → WritesResults election kept name files

-- what waits is counted as `queue` counts it
abbrev pub ResultsWaitAsQueuesDo : Type 0
ResultsWaitAsQueuesDo =
    (election : Election) (kept : List Event) → IsHistory election kept
    → waiting_line (length (waiting_in election kept)) ≡ count_line (length (queue_lines election kept))
