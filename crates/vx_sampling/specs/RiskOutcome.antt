-- What `risk` does: it writes for each contest what the draws of a sample with replacement say of its outcome.
use Rattle.std.specs.Prelude.{ℕ, List, length}
use Rattle.vx_io.specs.Outside.{Files}
use Rattle.vx_election_model.specs.declared.election.Election.{Election}
use Rattle.vx_tally.specs.declared.report.CvrRecord.{CvrRecord}
use Rattle.vx_audit.specs.declared.hand.HandLine.{HandLine}
use Rattle.vx_audit.specs.Sample.{draws_of}
use Rattle.vx_command.specs.Acts.{Outcome}
use Rattle.vx_words.specs.Samples.{seed_bytes}
use Rattle.vx_sampling.specs.Drawn.{drawn_outcome}
use Rattle.vx_sampling.specs.Rows.{rows_of}
use Rattle.vx_sampling.specs.Text.{text_of_rows}

-- the text of an election, the records of its report and what hands read of them, by a seed, so many draws, and a limit in
-- thousandths
abbrev pub risk_text : List ℕ → ℕ → ℕ → Election → List CvrRecord → List HandLine → List ℕ
risk_text seed size limit election records lines =
    text_of_rows size (length records) (rows_of records lines (draws_of seed size (length records)) limit election.contests)

-- `risk` for the election under a name, by a seed's word and so many draws, with what hands read under another name and a limit
-- in thousandths, over the records of its journal
abbrev pub risk_outcome : List ℕ → List ℕ → ℕ → List ℕ → ℕ → Files → List (List ℕ) → Outcome
risk_outcome election seed size hand limit files records =
    drawn_outcome (λ given contests. risk_text (seed_bytes seed) size limit given) election hand files records
