-- The report of a count in the pieces in which it is written: what stands before the sheets, a piece for each sheet,
-- and the rest.
use Rattle.std.specs.Prelude.{◌≡◌, ◌<◌, ℕ, All, Bool, true, false, List, [], ◌∷◌, ◌++◌, codes, length, map}
use Rattle.std.specs.List.{flat_map}
use Rattle.serde_json.specs.Written.{comma_if, compact_text, members_text}
use Rattle.vx_election_model.specs.declared.election.Election.{Election}
use Rattle.vx_events.specs.declared.event.Event.{Event}
use Rattle.vx_center.specs.declared.rows.ExportSheet.{ExportSheet}
use Rattle.vx_center.specs.Exports.{row_at}
use Rattle.vx_center.specs.Sheets.{sheets_in}
use Rattle.vx_cvr.specs.Json.{members}
use Rattle.vx_cvr.specs.Report.{behind_sheets, sheet}
use Rattle.vx_cvr.specs.Rows.{rows_of}

unfoldable pub front_piece : List ℕ
front_piece = codes "{\"@type\":\"CVR.CastVoteRecordReport\",\"CVR\":["

-- a sheet, with a comma where another stands before it
unfoldable pub sheet_piece : Election → Bool → ExportSheet → List ℕ
sheet_piece election is_later row = comma_if is_later ++ compact_text (sheet election row)

-- sheets in order; only the first of all has none before it
abbrev pub sheet_pieces : Election → Bool → List ExportSheet → List (List ℕ)
sheet_pieces election is_later [] = []
sheet_pieces election is_later (row ∷ rows) = sheet_piece election is_later row ∷ sheet_pieces election true rows

-- the bracket that closes the list of sheets, the members behind it, and a line feed
unfoldable pub last_piece : Election → List ℕ → List ℕ → List ℕ
last_piece election moment id = 93 ∷ members_text true (members (behind_sheets election moment id)) ++ 10 ∷ []

-- the pieces of the report of the kept events
unfoldable pub report_pieces : Election → List Event → List ℕ → List ℕ → List (List ℕ)
report_pieces election kept moment id =
    front_piece ∷ sheet_pieces election false (rows_of election kept) ++ last_piece election moment id ∷ []

-- pieces as one text
abbrev pub joined : List (List ℕ) → List ℕ
joined pieces = flat_map (λ piece. piece) pieces

-- the places of the sheets, in the order of adding, whose rows are the report's, in its order
pub record AreReportPlaces (election : Election) (kept : List Event) (places : List ℕ) : Type 0 where
  pub there : All (λ place. place < length (sheets_in kept)) places
  pub rows : map (row_at election kept) places ≡ rows_of election kept
