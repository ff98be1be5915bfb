-- What `sample` does: it writes the comparison of what hands read with the records that the seed draws.
use Rattle.std.specs.Prelude.{ℕ, List, length}
use Rattle.vx_io.specs.Outside.{Files}
use Rattle.vx_tally.specs.declared.report.CvrRecord.{CvrRecord}
use Rattle.vx_tally.specs.declared.report.ReportContest.{ReportContest}
use Rattle.vx_audit.specs.declared.hand.HandLine.{HandLine}
use Rattle.vx_audit.specs.Audit.{compared_text}
use Rattle.vx_audit.specs.Sample.{sample_of}
use Rattle.vx_command.specs.Acts.{Outcome}
use Rattle.vx_words.specs.Samples.{seed_bytes}
use Rattle.vx_sampling.specs.Drawn.{drawn_outcome}

-- the comparison of what hands read with the records, of those of a report, that the seed draws
abbrev pub sample_text : List ℕ → ℕ → List ReportContest → List CvrRecord → List HandLine → List ℕ
sample_text seed size contests records lines = compared_text contests records lines (sample_of seed size (length records))

-- `sample` for the election under a name, by a seed's word, with what hands read under another name, over the records of its
-- journal
abbrev pub sample_outcome : List ℕ → List ℕ → ℕ → List ℕ → Files → List (List ℕ) → Outcome
sample_outcome election seed size hand files records =
    drawn_outcome (λ given. sample_text (seed_bytes seed) size) election hand files records
