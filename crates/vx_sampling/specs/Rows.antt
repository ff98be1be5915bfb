-- What is told of each contest.
use Rattle.std.specs.Prelude.{ℕ, ◌==◌, List, [], ◌∷◌, length, map, count_by, slice_get, Option, Some, None}
use Rattle.std.specs.List.{flat_map, range_with_len}
use Rattle.vx_election_model.specs.declared.contest.Contest.{Contest}
use Rattle.vx_cvr.specs.Names.{contest_name}
use Rattle.vx_tally.specs.declared.report.CvrRecord.{CvrRecord}
use Rattle.vx_audit.specs.declared.hand.HandLine.{HandLine}
use Rattle.vx_risk.specs.Bound.{is_at_most, millionths_of}
use Rattle.vx_risk.specs.Enough.{enough_of}
use Rattle.vx_sampling.specs.declared.finding.Finding.{Finding}
use Rattle.vx_sampling.specs.declared.standing.Standing.{Standing}
use Rattle.vx_sampling.specs.declared.standing.Standing.TheVariants as standing
use Rattle.vx_sampling.specs.declared.rows.Figures.{Figures}
use Rattle.vx_sampling.specs.declared.rows.Told.{Told}
use Rattle.vx_sampling.specs.declared.rows.Told.TheVariants.{Tie, WriteIn, Risk}
use Rattle.vx_sampling.specs.declared.rows.Row.{Row}
use Rattle.vx_sampling.specs.Standing.{standing_of}
use Rattle.vx_sampling.specs.declared.sides.Sides.{Sides}
use Rattle.vx_sampling.specs.Sides.{choice_votes, slot_votes, sides_of}
use Rattle.vx_sampling.specs.Findings.{votes_of, is_missing, findings_of}

-- the figures of a contest with a margin: so many draws overstate it by one vote and by two, so many of the latter as their
-- line is missing, what that bounds the risk by, and how many draws without an overstatement are enough
abbrev pub figures_of : ℕ → ℕ → ℕ → List Finding → Figures
figures_of records limit margin findings = record {
  margin = margin;
  one = count_by (λ finding. votes_of finding == 1) findings;
  two = count_by (λ finding. votes_of finding == 2) findings;
  missing = count_by is_missing findings;
  millionths = millionths_of records margin (map votes_of findings);
  is_met = is_at_most records margin (map votes_of findings) limit;
  enough = enough_of records margin limit;
}

module _ (records : List CvrRecord) (lines : List HandLine) (draws : List ℕ) (limit : ℕ) where
  -- of a contest by how it stands
  abbrev pub told_by : Sides → Standing → Told
  told_by sides standing.Tie = Tie
  told_by sides standing.WriteIn = WriteIn
  told_by sides (standing.Margin margin) =
      Risk (figures_of (length records) limit margin (findings_of sides lines records draws))

  -- of the contest at a place
  abbrev pub told_of : ℕ → Contest → Told
  told_of place contest =
      told_by (sides_of place contest (choice_votes records place contest))
      (standing_of contest.seats (choice_votes records place contest) (slot_votes records place contest))

  -- its row, and none where there is no contest
  abbrev pub row_of : ℕ → Contest → Row
  row_of place contest = record { name = contest_name contest.id; told = told_of place contest }

  abbrev pub row_at : ℕ → Option Contest → List Row
  row_at place None = []
  row_at place (Some contest) = row_of place contest ∷ []

  -- those of all contests, in order
  unfoldable pub rows_of : List Contest → List Row
  rows_of contests = flat_map (λ place. row_at place (slice_get contests place)) (range_with_len 0 (length contests))
