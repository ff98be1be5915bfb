-- What holds of the rows of a report.
use Rattle.std.specs.Prelude.{◌≡◌, ℕ, List, [], ◌∷◌, filter, slice_get, Some}
use Rattle.vx_election_model.specs.declared.election.Election.{Election}
use Rattle.vx_events.specs.declared.event.Event.{Event}
use Rattle.vx_events.specs.declared.key.Key.{Key}
use Rattle.vx_center.specs.declared.rows.ExportSheet.{ExportSheet}
use Rattle.vx_center.specs.Exports.{AreExportRows, row_of}
use Rattle.vx_center.specs.Sheets.{Added, has_key, same_key, sheets_in}
use Rattle.vx_cvr.specs.Pieces.{joined, report_pieces}
use Rattle.vx_cvr.specs.Report.{report_of}
use Rattle.vx_cvr.specs.Rows.{rows_of}

-- the rows are one for each sheet that was added, and none else, in the order of their keys
abbrev pub RowsAreOfTheSheets : Type 0
RowsAreOfTheSheets = (election : Election) (kept : List Event) → AreExportRows election kept (rows_of election kept)

-- a row is of a sheet that was added
pub record IsRowOfSheet (election : Election) (kept : List Event) (row : ExportSheet) : Type 0 where
  pub place : ℕ
  pub added : Added
  pub is_added : slice_get (sheets_in kept) place ≡ Some added
  pub is_row : row ≡ row_of election kept added

abbrev pub EachRowIsOfASheet : Type 0
EachRowIsOfASheet =
    (election : Election) (kept : List Event) (n : ℕ) (row : ExportSheet)
    → slice_get (rows_of election kept) n ≡ Some row → IsRowOfSheet election kept row

-- a key that one sheet has, one row has
abbrev pub OneRowOfAKey : Type 0
OneRowOfAKey =
    (election : Election) (kept : List Event) (key : Key) (added : Added)
    → filter (has_key key) (sheets_in kept) ≡ added ∷ []
    → filter (λ (row : ExportSheet). same_key key row.key) (rows_of election kept) ≡ row_of election kept added ∷ []

-- the pieces of a report, joined, are the report
abbrev pub PiecesAreTheReport : Type 0
PiecesAreTheReport =
    (election : Election) (kept : List Event) (moment device : List ℕ)
    → joined (report_pieces election kept moment device) ≡ report_of election kept moment device
