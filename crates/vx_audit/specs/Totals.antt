-- What `totals` writes of a report: the sums over its records, for each contest and its selections, then those of each
-- unit above 0, and last how many records there are.
use Rattle.std.specs.Prelude.{ℕ, ◌==◌, if◌then◌else◌, List, [], ◌∷◌, ◌++◌, codes}
use Rattle.std.specs.Fmt.{decimal}
use Rattle.vx_tally.specs.declared.report.Report.{Report}
use Rattle.vx_tally.specs.declared.report.ReportContest.{ReportContest}
use Rattle.vx_tally.specs.Totals.{Summed, summed_of}
use Rattle.vx_audit.specs.Walk.{by_place}

-- `contest C over O under U`
abbrev pub contest_line : List ℕ → ℕ → ℕ → List ℕ
contest_line contest over under =
    codes "contest " ++ contest ++ codes " over " ++ decimal over ++ codes " under " ++ decimal under ++ 10 ∷ []

-- `total C SEL VOTES`
abbrev pub total_line : List ℕ → List ℕ → ℕ → List ℕ
total_line contest selection votes = codes "total " ++ contest ++ 32 ∷ selection ++ 32 ∷ decimal votes ++ 10 ∷ []

-- `unit UNIT SEL VOTES`, where there are votes
abbrev pub unit_line : List ℕ → List ℕ → ℕ → List ℕ
unit_line unit selection votes =
    if votes == 0 then [] else codes "unit " ++ unit ++ 32 ∷ selection ++ 32 ∷ decimal votes ++ 10 ∷ []

-- `records N`
abbrev pub records_line : ℕ → List ℕ
records_line count = codes "records " ++ decimal count ++ 10 ∷ []

module _ (sums : Summed) where
  -- the line of the selection at a place of the contest at a place
  abbrev pub selection_total : ℕ → List ℕ → ℕ → List ℕ → List ℕ
  selection_total contest id selection name = total_line id name (sums.votes contest selection)

  -- the line of the contest at a place, and then those of its selections
  abbrev pub contest_totals : ℕ → ReportContest → List ℕ
  contest_totals place contest =
      contest_line contest.id (sums.over place) (sums.under place)
      ++ by_place (selection_total place contest.id) 0 contest.selections

  -- the line of the selection at a place of the contest at a place, in the unit at a place
  abbrev pub unit_selection : ℕ → List ℕ → ℕ → ℕ → List ℕ → List ℕ
  unit_selection unit id contest selection name = unit_line id name (sums.votes_in unit contest selection)

  -- those of the selections of the contest at a place
  abbrev pub unit_contest : ℕ → List ℕ → ℕ → ReportContest → List ℕ
  unit_contest unit id place contest = by_place (unit_selection unit id place) 0 contest.selections

  -- those of all contests
  abbrev pub unit_totals : List ReportContest → ℕ → List ℕ → List ℕ
  unit_totals contests unit id = by_place (unit_contest unit id) 0 contests

  -- the whole text, with the contests and the units that are told
  unfoldable pub sums_text : List ReportContest → List (List ℕ) → List ℕ
  sums_text contests units =
      by_place contest_totals 0 contests ++ by_place (unit_totals contests) 0 units ++ records_line sums.count

-- that of a report, by the sums of its records
unfoldable pub totals_text : Report → List ℕ
totals_text report = sums_text (summed_of report.records) report.contests report.units
