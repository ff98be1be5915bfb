-- What the draws say of a contest: for each by how many votes its record overstates the margin, or that the hand's line
-- is missing.
use Rattle.std.specs.Prelude.{ℕ, ◌==◌, Bool, true, false, List, map, slice_get, Option, Some, None}
use Rattle.std.specs.List.{list_any}
use Rattle.vx_tally.specs.declared.report.CvrRecord.{CvrRecord}
use Rattle.vx_tally.specs.declared.report.RecordContest.{RecordContest}
use Rattle.vx_audit.specs.declared.hand.HandLine.{HandLine}
use Rattle.vx_audit.specs.Pairs.{line_for}
use Rattle.vx_sampling.specs.declared.finding.Finding.{Finding}
use Rattle.vx_sampling.specs.declared.finding.Finding.TheVariants.{Overstated, Missing}
use Rattle.vx_sampling.specs.declared.sides.Sides.{Sides}
use Rattle.vx_sampling.specs.Said.{said_of, rivals_of, overstatement}

-- a finding's overstatement in votes: what is missing is taken for the worst
abbrev pub votes_of : Finding → ℕ
votes_of (Overstated votes) = votes
votes_of Missing = 2

abbrev pub is_missing : Finding → Bool
is_missing (Overstated votes) = false
is_missing Missing = true

-- the record has the contest at a place
abbrev pub has_contest : ℕ → CvrRecord → Bool
has_contest contest one = list_any (λ (counted : RecordContest). contest == counted.contest) one.contests

-- a line of the ballot of that record
abbrev pub is_of : ℕ → HandLine → Bool
is_of ballot line = ballot == line.ballot

-- where there is a line with these marks
abbrev pub found_by : Sides → CvrRecord → List ℕ → Finding
found_by sides one marks =
    Overstated (overstatement (map (said_of one sides.contest sides.seats marks) sides.winners)
    (rivals_of (map (said_of one sides.contest sides.seats marks) sides.losers)
    (map (said_of one sides.contest sides.seats marks) sides.slots)))

-- where there is none: missing where the record has the contest; else nothing where there is another line of the ballot, and
-- where there is none, so that the ballot wasn't found, the most that paper may say of a contest that the record hasn't
abbrev pub found_without : Bool → Bool → Finding
found_without true is_found = Missing
found_without false true = Overstated 0
found_without false false = Overstated 1

-- by the line, if there is one
abbrev pub found_for : Sides → CvrRecord → Bool → Option HandLine → Finding
found_for sides one is_found None = found_without (has_contest sides.contest one) is_found
found_for sides one is_found (Some line) = found_by sides one line.marks

module _ (sides : Sides) (lines : List HandLine) where
  -- of the record at a place; nothing where there is no record
  abbrev pub found_at : ℕ → Option CvrRecord → Finding
  found_at ballot None = Overstated 0
  found_at ballot (Some one) = found_for sides one (list_any (is_of ballot) lines) (line_for lines ballot sides.contest)

  -- of all draws, in their order
  abbrev pub findings_of : List CvrRecord → List ℕ → List Finding
  findings_of records draws = map (λ ballot. found_at ballot (slice_get records ballot)) draws
