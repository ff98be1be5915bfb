-- The lines of the selections of contests in units, by their places.
use Rattle.std.specs.Prelude.{ℕ, List, [], slice_get, Option, Some, None}
use Rattle.vx_tally.specs.Cells.{Cell}
use Rattle.vx_tally.specs.Totals.{Summed}
use Rattle.vx_tally.specs.declared.report.ReportContest.{ReportContest}
use Rattle.vx_audit.specs.Hand.{own_of}
use Rattle.vx_audit.specs.Totals.{unit_line}

-- the line of a unit and a selection, where there are those
abbrev pub named_line : Option (List ℕ) → Option (List ℕ) → ℕ → List ℕ
named_line None selection votes = []
named_line (Some unit) None votes = []
named_line (Some unit) (Some selection) votes = unit_line unit selection votes

-- the id of the selection at a place of the contest at a place
abbrev pub selection_at : List ReportContest → ℕ → ℕ → Option (List ℕ)
selection_at contests contest selection = slice_get (own_of (slice_get contests contest)) selection

-- the line of a cell
abbrev pub cell_line : Summed → List ReportContest → List (List ℕ) → Cell → List ℕ
cell_line sums contests units cell =
    named_line (slice_get units cell.0) (selection_at contests cell.1 cell.2) (sums.votes_in cell.0 cell.1 cell.2)
