-- The rows of an export in their order, as a function: by the batch's bytes, and then by the number.
use Rattle.std.specs.Prelude.{ℕ, List, [], ◌∷◌, map, if◌then◌else◌}
use Rattle.std.specs.Ordering.{match_ordering}
use Rattle.vx_election_model.specs.declared.election.Election.{Election}
use Rattle.vx_events.specs.declared.event.Event.{Event}
use Rattle.vx_center.specs.declared.rows.ExportSheet.{ExportSheet}
use Rattle.vx_center.specs.Sheets.{sheets_in}
use Rattle.vx_center.specs.Exports.{key_order, row_of}

-- a row among rows in order: before the first whose key isn't less
abbrev pub placed : ExportSheet → List ExportSheet → List ExportSheet
placed row [] = row ∷ []
placed row (other ∷ others) =
    match_ordering (key_order other.key row.key) (other ∷ placed row others) (row ∷ other ∷ others) (row ∷ other ∷ others)

-- rows in order
abbrev pub in_order : List ExportSheet → List ExportSheet
in_order [] = []
in_order (row ∷ rows) = placed row (in_order rows)

-- a row for each sheet that was added
abbrev pub rows_of : Election → List Event → List ExportSheet
rows_of election kept = in_order (map (row_of election kept) (sheets_in kept))
