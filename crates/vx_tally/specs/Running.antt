-- Running sums: what is kept of records of which none is.
use Rattle.std.specs.Prelude.{◌≡◌, ◌≤◌, ℕ, ◌*◌, ◌==◌, if◌then◌else◌, List, [], ◌∷◌}
use Rattle.std.specs.Map.{lookup}
use Rattle.std.specs.Option.{unwrap_or}
use Rattle.vx_tally.specs.declared.report.CvrRecord.{CvrRecord}
use Rattle.vx_tally.specs.declared.sums.Counted.{Counted}
use Rattle.vx_tally.specs.declared.sums.Counted.TheVariants.{Votes, VotesIn, Over, Under}
use Rattle.vx_tally.specs.Cells.{Cell}
use Rattle.vx_tally.specs.Sums.{same_counted}
use Rattle.vx_tally.specs.Totals.{Summed, summed_of}

-- how many records there were, and the sums that are kept, by what they are of
abbrev pub Running : Type 0
Running = ℕ × List (Counted × ℕ)

-- a sum; one that isn't kept is 0
abbrev pub sum_in : List (Counted × ℕ) → Counted → ℕ
sum_in sums key = unwrap_or (lookup (same_counted key) sums) 0

-- what running sums say
unfoldable pub summed_in : Running → Summed
summed_in running = record {
  count = running.0;
  votes = λ contest selection. sum_in running.1 (Votes contest selection);
  votes_in = λ unit contest selection. sum_in running.1 (VotesIn unit contest selection);
  over = λ contest. sum_in running.1 (Over contest);
  under = λ contest. sum_in running.1 (Under contest);
}

-- running sums are those of the records
abbrev pub SumsUp : List CvrRecord → Running → Type 0
SumsUp records running = summed_in running ≡ summed_of records

-- no sum of so many records that could be added is above that
pub record AreBounded (running : Running) : Type 0 where
  pub each : (key : Counted) → sum_in running.1 key ≤ 1000000000 * running.0

-- the cell of a sum, where it is one of votes in a unit, and above 0
abbrev pub cell_by : Counted → ℕ → List Cell
cell_by (VotesIn unit contest selection) votes = if votes == 0 then [] else (unit, contest, selection) ∷ []
cell_by (Votes contest selection) votes = []
cell_by (Over contest) votes = []
cell_by (Under contest) votes = []

abbrev pub cell_of : Counted × ℕ → List Cell
cell_of entry = cell_by entry.0 entry.1
