-- What `sample` and `risk` have in common: they take their election, read its journal, take what hands read of the sheets, and
-- write a text of the journal's records and of that.
use Rattle.std.specs.Prelude.{ℕ, List, Option, Result, Ok, Err}
use Rattle.vx_io.specs.Outside.{Files}
use Rattle.vx_election_model.specs.declared.election.Election.{Election}
use Rattle.vx_tally.specs.declared.report.CvrRecord.{CvrRecord}
use Rattle.vx_tally.specs.declared.report.ReportContest.{ReportContest}
use Rattle.vx_audit.specs.declared.hand.HandLine.{HandLine}
use Rattle.vx_audit.specs.declared.hand.HandFault.{HandFault}
use Rattle.vx_audit.specs.declared.hand.HandFault.TheVariants.{BadLine, OutOfMemory}
use Rattle.vx_audit.specs.Hand.{hand_by, record_with}
use Rattle.vx_command.specs.declared.halt.Halt.{Halt}
use Rattle.vx_command.specs.declared.halt.Halt.TheVariants as halt
use Rattle.vx_base.specs.Results.{◌>>=◌}
use Rattle.vx_command.specs.Acts.{Outcome, input_limit, input_of, taking, writing}
use Rattle.vx_command.specs.Elections.{once_election}
use Rattle.vx_journal.specs.declared.journal.Journal.{Journal}
use Rattle.vx_journal.specs.Steps.{once_read}
use Rattle.vx_results.specs.Report.{report_of_events}

-- why it halts where what hands read is refused
abbrev pub hand_halt : HandFault → Halt
hand_halt (BadLine line) = halt.Hand line
hand_halt OutOfMemory = halt.NoMemory

-- what hands read, or why it halts
abbrev pub read_hand : Result (List HandLine) HandFault → Result (List HandLine) Halt
read_hand (Ok lines) = Ok lines
read_hand (Err fault) = Err (hand_halt fault)

-- what hands read of contests and of the ballots of records, in the input of word 4, or why a command that needs it halts
abbrev pub hand_in : List ReportContest → List CvrRecord → Option (List ℕ) → Result (List HandLine) Halt
hand_in contests records file =
    input_of 4 input_limit file >>= (λ bytes. read_hand (hand_by contests (record_with records) bytes))

-- a text of an election, the contests and the records of its report, and what hands read
abbrev pub Telling : Type 0
Telling = Election → List ReportContest → List CvrRecord → List HandLine → List ℕ

module _ (text : Telling) (election : Election) where
  -- what hands read, which is word 4, is taken, and the text is written unless it is refused
  abbrev pub hand_outcome : List ReportContest → List CvrRecord → Option (List ℕ) → Outcome
  hand_outcome contests records file =
      taking 4 (hand_in contests records file) (λ lines. writing (text election contests records lines))

  -- the contests and the records are those of the report of the journal's events
  abbrev pub journal_outcome : Option (List ℕ) → Journal → Outcome
  journal_outcome file journal =
      hand_outcome (report_of_events election journal.center.events).contests
      (report_of_events election journal.center.events).records file

-- the whole, for the election under a name, with what hands read under another name, over the records of its journal
abbrev pub drawn_outcome : Telling → List ℕ → List ℕ → Files → List (List ℕ) → Outcome
drawn_outcome text election hand files records =
    once_election (files election) (λ given. once_read given records (journal_outcome text given (files hand)))
