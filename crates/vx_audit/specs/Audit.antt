-- What `audit` writes: for each sampled record its line, and then those of its contests that differ or are missing; last
-- how many were looked at.
use Rattle.std.specs.Prelude.{ℕ, Bool, true, false, List, [], ◌∷◌, ◌++◌, length, filter, codes, slice_get, Option, Some, None}
use Rattle.std.specs.List.{flat_map}
use Rattle.std.specs.Fmt.{decimal}
use Rattle.vx_tally.specs.declared.report.Report.{Report}
use Rattle.vx_tally.specs.declared.report.ReportContest.{ReportContest}
use Rattle.vx_tally.specs.declared.report.CvrRecord.{CvrRecord}
use Rattle.vx_audit.specs.declared.hand.HandLine.{HandLine}
use Rattle.vx_audit.specs.Pairs.{Pair, is_compared, is_missing, is_different, differs_from, pairs_of}

-- `sampled U`
abbrev pub sampled_line : List ℕ → List ℕ
sampled_line unique = codes "sampled " ++ unique ++ 10 ∷ []

-- `missing U C`
abbrev pub missing_line : List ℕ → List ℕ → List ℕ
missing_line unique contest = codes "missing " ++ unique ++ 32 ∷ contest ++ 10 ∷ []

-- `differs U C record TEXT hand TEXT`
abbrev pub differs_line : List ℕ → List ℕ → List ℕ → List ℕ → List ℕ
differs_line unique contest said read =
    codes "differs " ++ unique ++ 32 ∷ contest ++ codes " record " ++ said ++ codes " hand " ++ read ++ 10 ∷ []

-- the line where the texts differ, and none where they don't
abbrev pub if_different : Bool → List ℕ → List ℕ
if_different true line = line
if_different false line = []

-- the line of a pair, if it has one
abbrev pub read_text : List ℕ → List ℕ → List ℕ → Option (List ℕ) → List ℕ
read_text unique contest said None = missing_line unique contest
read_text unique contest said (Some read) =
    if_different (differs_from said (Some read)) (differs_line unique contest said read)

abbrev pub pair_text : Pair → List ℕ
pair_text pair = read_text pair.unique pair.contest pair.said pair.read

-- the pairs of the record at a place, none where there is no record
abbrev pub pairs_at : List ReportContest → List HandLine → ℕ → Option CvrRecord → List Pair
pairs_at contests lines at None = []
pairs_at contests lines at (Some one) = pairs_of contests lines at one

-- the lines of the record at a place
abbrev pub record_lines : List ReportContest → List HandLine → ℕ → Option CvrRecord → List ℕ
record_lines contests lines at None = []
record_lines contests lines at (Some one) = sampled_line one.unique ++ flat_map pair_text (pairs_of contests lines at one)

-- how many pairs pass
abbrev pub how_many : (Pair → Bool) → List Pair → ℕ
how_many test pairs = length (filter test pairs)

-- `sample N compared A differs B missing D`
abbrev pub sums_line : ℕ → ℕ → ℕ → ℕ → List ℕ
sums_line sampled compared different missing =
    codes "sample " ++ decimal sampled ++ codes " compared " ++ decimal compared ++ codes " differs " ++ decimal different
    ++ codes " missing " ++ decimal missing ++ 10 ∷ []

-- of contests, their records, what hands read, and the places of the records of the sample
module _ (contests : List ReportContest) (records : List CvrRecord) (lines : List HandLine) (sample : List ℕ) where
  -- all pairs
  abbrev pub all_pairs : List Pair
  all_pairs = flat_map (λ at. pairs_at contests lines at (slice_get records at)) sample

  -- the whole text
  unfoldable pub compared_text : List ℕ
  compared_text =
      flat_map (λ at. record_lines contests lines at (slice_get records at)) sample
      ++ sums_line (length sample) (how_many is_compared all_pairs) (how_many is_different all_pairs)
      (how_many is_missing all_pairs)

-- the same of a report
abbrev pub audit_text : Report → List HandLine → List ℕ → List ℕ
audit_text report lines sample = compared_text report.contests report.records lines sample
